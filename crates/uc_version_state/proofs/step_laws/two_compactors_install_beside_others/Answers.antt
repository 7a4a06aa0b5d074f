use Rattle.uc_version_state.proofs.Beside.{install_beside, one_stays, other_stays}
use Rattle.uc_version_state.proofs.step_laws.two_compactors_install_beside_others.Goals as goal

pub returns-clause-installs : goal.returns-clause-installs
returns-clause-installs c m o s t meanwhile i j look made made_after =
    install_beside c.flushed_writes_are_a_run.ensures m look.lawful o meanwhile look.legal (c.opening_gives_a_version.ensures o look.legal.opens) s.first s.count t.first t.count look.two look.within look.two_more
    look.more_within look.apart look.free i made j made_after

pub returns-clause-stays : goal.returns-clause-stays
returns-clause-stays c m o s t meanwhile look =
    one_stays c.flushed_writes_are_a_run.ensures m look.lawful o meanwhile look.legal (c.opening_gives_a_version.ensures o look.legal.opens) s.first s.count t.first t.count look.two look.within look.two_more
    look.more_within look.apart look.free

pub returns-clause-beside : goal.returns-clause-beside
returns-clause-beside c m o s t meanwhile i look made =
    other_stays c.flushed_writes_are_a_run.ensures m look.lawful o meanwhile look.legal (c.opening_gives_a_version.ensures o look.legal.opens) s.first s.count t.first t.count look.two look.within look.two_more
    look.more_within look.apart look.free i made
