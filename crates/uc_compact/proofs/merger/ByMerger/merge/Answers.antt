use Rattle.uc_compact.proofs.merger.ByMerger.merge.Goals as goal

pub returns : goal.returns
returns g c = (c.requires.can c.args.alloc c.args.inputs c.args.keeps c.args.oldest c.requires.stand).1 c.call.result c.call.ensures
