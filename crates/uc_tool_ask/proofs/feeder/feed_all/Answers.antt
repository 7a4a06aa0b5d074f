use Rattle.std.proofs.Common.{rules, refl, ◌≡◌, [], ◌∷◌, ◌++◌, List, append_assoc, ap, sym, subst, ◌∙◌, arith}
use Rattle.std.proofs.lemmas.List.{length_push}
use Rattle.uc_bytes.specs.declared.write.Write.{Write}
use Rattle.uc_tool_ask.specs.Feeding.{AreFed}
use Rattle.uc_tool_ask.proofs.Fed.{seen_on, fed_more, first_are}
use Rattle.uc_tool_ask.proofs.feeder.feed_all.Goals as goal

pub returns-then-not-feed_one-clause-fed : goal.returns-then-not-feed_one-clause-fed
returns-then-not-feed_one-clause-fed g c =
    let l = c.loop-write in
    let later = c.feed_one.new.reader in
    subst (λ (ws : List Write). AreFed ws c.args.reader.now later)
    (sym (first_are l.fed l.yielded l.write-iterator.rest.items c.args.writes.items l.invariant.fed l.invariant.all))
    (seen_on l.yielded c.args.reader.now l.reader later l.invariant.seen c.feed_one.ensures.seen)

pub loop-write-preserved : goal.loop-write-preserved
loop-write-preserved g c =
    let l = c.loop-write in
    let rest = c.next.new.self.rest.items in
    let write = c.in-Some.write in
    let first : l.write-iterator.rest.items ≡ write ∷ rest = search rules in
    record {
      fed = let one_more = length_push l.yielded write in omega (arith, l.invariant.fed, one_more);
      all = append_assoc l.yielded (write ∷ []) rest ∙ ap (λ (ws : List Write). l.yielded ++ ws) (sym first) ∙ l.invariant.all;
      seen = fed_more l.yielded write c.args.reader.now l.reader c.feed_one.new.reader l.invariant.seen (c.if-not-feed_one.ensures.fed refl);
    }
