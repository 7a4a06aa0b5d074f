use Rattle.uc_compact.proofs.folder.ByFolder.fold.Goals as goal

pub returns : goal.returns
returns g c = (c.requires c.args.alloc c.args.before c.args.points).1 c.call.result c.call.ensures
