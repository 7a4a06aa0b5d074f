-- How the next keys of walks are held.
use Rattle.std.specs.Prelude.{map, option_map}
use Rattle.uc_run.specs.Heads.{AreNumbered, NextKeys}
use Rattle.uc_run.specs.declared.heads.Heads.TheInside.{Inside}

abbrev pub next_keys : Inside → NextKeys
next_keys h = record { front = h.front.now; keys = map (option_map (λ key. key.now)) h.keys.items }

-- each key with its number
abbrev pub IsNumbered : Inside → Type 0
IsNumbered h = AreNumbered h.front.now (map (option_map (λ key. key.now)) h.keys.items) h.numbers
