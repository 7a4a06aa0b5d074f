-- The footer of a file.
use Rattle.std.specs.Prelude.{ℕ, List, [], ◌∷◌, ◌++◌, drop}
use Rattle.uc_logrec.specs.Crc.{crc_of}
use Rattle.uc_run_file.specs.Words.{word_text, half_text, word_of}
use Rattle.uc_run_file.specs.declared.footer.Footer.{Footer}

-- the six numbers in eight bytes each and the version, 1, in four, lowest byte first
unfoldable pub fields_text : Footer → List ℕ
fields_text f =
    word_text f.points_len ++ (word_text f.fragments_len ++ (word_text f.points ++ (word_text f.fragments
    ++ (word_text f.low ++ (word_text f.high ++ half_text 1)))))

-- the last eight bytes: `ucstrun` and a line feed
unfoldable pub magic : List ℕ
magic = 117 ∷ 99 ∷ 115 ∷ 116 ∷ 114 ∷ 117 ∷ 110 ∷ 10 ∷ []

-- the fields, the checksum of the table and of the fields, and the magic bytes
unfoldable pub footer_text : Footer → List ℕ → List ℕ
footer_text f table = fields_text f ++ (half_text (crc_of (table ++ fields_text f)) ++ magic)

-- the numbers at the front of a footer
unfoldable pub footer_in : List ℕ → Footer
footer_in bytes = record {
  points_len = word_of bytes;
  fragments_len = word_of (drop 8 bytes);
  points = word_of (drop 8 (drop 8 bytes));
  fragments = word_of (drop 8 (drop 8 (drop 8 bytes)));
  low = word_of (drop 8 (drop 8 (drop 8 (drop 8 bytes))));
  high = word_of (drop 8 (drop 8 (drop 8 (drop 8 (drop 8 bytes)))));
}
