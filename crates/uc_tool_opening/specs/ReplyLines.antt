-- The lines of replies to calls.
use Rattle.std.specs.Prelude.{ℕ, List, [], ◌∷◌, codes, Option, Some, None}
use Rattle.std.specs.List.{flat_map}
use Rattle.uc_version_state.specs.declared.stretch.Stretch.{Stretch}
use Rattle.uc_query.specs.declared.reply.Reply.{Reply}
use Rattle.uc_query.specs.declared.reply.Reply.TheVariants.{Claimed, Refused, Installed, NotInstalled, Abandoned, NoClaim, NameHeld, Compacted, Picked, Reported, Answers, Fed, NotFed, Kept, Released, NotReleased}
use Rattle.uc_tool_io.specs.Line.{fields_line, numbered_line}
use Rattle.uc_tool_opening.specs.AnswerLines.{answer_lines}
use Rattle.uc_tool_opening.specs.ReportLines.{report_lines}
use Rattle.uc_tool_opening.specs.RefusalLines.{claim_refusal_line, install_refusal_line, feed_refusal_line}

-- what would be compacted next
abbrev pub pick_line : Option Stretch → List ℕ
pick_line None = codes "pick none\n"
pick_line (Some stretch) = fields_line ((codes "pick ", stretch.first) ∷ (codes " ", stretch.count) ∷ [])

-- which runs were compacted, and the id of what they became
abbrev pub compacted_line : Stretch → ℕ → List ℕ
compacted_line stretch id = fields_line ((codes "compacted ", stretch.first) ∷ (codes " ", stretch.count) ∷ (codes " ", id) ∷ [])

-- how many runs writes became, and the last sequence
abbrev pub fed_line : ℕ → ℕ → List ℕ
fed_line runs last = fields_line ((codes "fed ", runs) ∷ (codes " ", last) ∷ [])

-- the lines of a reply, after which this is the last sequence
abbrev pub reply_lines : ℕ → Reply → List ℕ
reply_lines last (Claimed name) = numbered_line (codes "claimed ") name
reply_lines last (Refused error) = claim_refusal_line error
reply_lines last (Installed id) = numbered_line (codes "installed ") id
reply_lines last (NotInstalled error) = install_refusal_line error
reply_lines last (Abandoned name) = numbered_line (codes "abandoned ") name
reply_lines last (NoClaim name) = numbered_line (codes "refused no claim ") name
reply_lines last (NameHeld name) = numbered_line (codes "refused name held ") name
reply_lines last (Compacted id) = numbered_line (codes "compacted ") id
reply_lines last (Picked stretch) = pick_line stretch
reply_lines last (Reported report) = report_lines report
reply_lines last (Answers answers) = flat_map answer_lines answers
reply_lines last (Fed runs) = fed_line runs last
reply_lines last (NotFed error) = feed_refusal_line error
reply_lines last (Kept seq) = numbered_line (codes "kept ") seq
reply_lines last (Released seq) = numbered_line (codes "released ") seq
reply_lines last (NotReleased seq) = numbered_line (codes "refused not kept ") seq
