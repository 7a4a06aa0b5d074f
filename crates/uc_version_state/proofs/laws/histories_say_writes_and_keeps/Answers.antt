use Rattle.std.proofs.Common.{ap, sym, ◌∙◌, subst}
use Rattle.uc_batch.specs.Rising.{IsRising, last_of}
use Rattle.uc_version_state.proofs.Knowing.{is_known, writes_known}
use Rattle.uc_version_state.proofs.laws.histories_say_writes_and_keeps.Goals as goal

pub returns : goal.returns
returns g c =
    let m = g.O.Operator.meaning in
    record {
      writes = λ h. writes_known h;
      rising = λ h legal. subst (IsRising 0) (writes_known h) (is_known m h legal).rising;
      last = λ h legal. ap (last_of 0) (sym (writes_known h)) ∙ (is_known m h legal).last;
      keeps = λ h legal. (is_known m h legal).keeps;
    }
