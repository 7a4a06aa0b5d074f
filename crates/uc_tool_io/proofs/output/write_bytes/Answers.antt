use Rattle.uc_tool_io.proofs.Known.{front_more}
use Rattle.uc_tool_io.proofs.output.write_bytes.Goals as goal

pub loop-rest-preserved : goal.loop-rest-preserved
loop-rest-preserved g c =
    let l = c.loop-rest in
    front_more (g.W.Write.contents c.args.writer.now) (g.W.Write.contents l.writer) (g.W.Write.contents c.write.new.self) l.invariant.0 l.rest.now c.args.bytes.now c.in-Ok.count l.invariant.1 l.invariant.2 c.in-Ok.ensures.bytes
