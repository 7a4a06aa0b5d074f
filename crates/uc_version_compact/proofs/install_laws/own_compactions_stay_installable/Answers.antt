use Rattle.uc_version_compact.proofs.InstallableLater.{installable_later, refused_later, only_ids_later}
use Rattle.uc_version_compact.proofs.install_laws.own_compactions_stay_installable.Goals as goal

pub returns : goal.returns
returns g c =
    let m = g.O.Operator.meaning in
    record {
      may = λ v s events is_version some within follow there left.
          installable_later m v is_version s some within events follow there left;
      refused = λ v s events error is_version some within follow refused.
          refused_later m v is_version s some within events follow error refused;
      in_place = λ v s events error is_version some within follow there refused.
          only_ids_later m v is_version s some within events follow error there refused;
    }
