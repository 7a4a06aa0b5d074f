use Rattle.std.proofs.Common.{rules, ◌≡◌, ◌*◌, ◌++◌, ◌∷◌, [], get_or, sym, ap, ◌∙◌, subst, arith}
use Rattle.std.proofs.lemmas.List.{length_push}
use Rattle.uc_run.specs.Prefixes.{prefix_of, AreBytes}
use Rattle.uc_run.proofs.Decided.{prefixes_more, bytes_more}
use Rattle.uc_run.proofs.Fenced.{one_more_fence}
use Rattle.uc_run.proofs.fences.prefixes_of.Goals as goal

pub loop-block-preserved : goal.loop-block-preserved
loop-block-preserved c =
    let points = c.args.points.now in
    let shared = c.args.shared in
    let i = c.loop-block.invariant in
    let key = c.fence_at.result.now in
    let rest = c.after_front.ensures in
    let more = length_push i.fences key in
    let long = i.long in
    let pushed : c.push.new.self.items ≡ c.loop-block.prefixes.items ++ c.prefix_of.result ∷ [] = search rules in
    record {
      fences = i.fences ++ key ∷ [];
      long = omega (arith, more, long);
      keys = one_more_fence points i.fences key i.keys (λ e. c.fence_at.ensures e ∙ ap (λ n. (get_or points (4 * n) e).key) (sym i.long));
      each = pushed ∙ prefixes_more shared i.fences key c.loop-block.prefixes.items c.prefix_of.result (c.prefix_of.ensures.prefix ∙ ap prefix_of rest) i.each;
      bytes = bytes_more shared i.fences key (subst AreBytes rest c.prefix_of.ensures.bytes) i.bytes;
    }
