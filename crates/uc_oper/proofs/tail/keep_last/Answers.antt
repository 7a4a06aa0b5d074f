use Rattle.std.proofs.Common.{◌≡◌, ◌-◌, ◌++◌, length, ◌∙◌, sym, rules}
use Rattle.uc_oper.specs.Tails.{last_bytes, last_parts}
use Rattle.uc_oper.proofs.tail.keep_last.Goals as goal

pub returns : goal.returns
returns c =
    let count = c.args.count in
    let newer = last_bytes count c.args.newer.now in
    let both : c.extend_from_slice.new.self.items ≡ last_bytes (count - length newer) c.args.older.items ++ newer = search rules in
    both ∙ sym (last_parts count c.args.older.items c.args.newer.now)
