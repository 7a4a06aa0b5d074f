use Rattle.uc_version_state.proofs.Found.{last_if}
use Rattle.uc_version_state.proofs.refusing.are_last.Goals as goal

pub returns : goal.returns
returns c = last_if c.args.runs.now c.args.ids.now c.newest_id.result c.place_of.result c.newest_id.ensures c.place_of.ensures.place c.place_of.ensures.within
