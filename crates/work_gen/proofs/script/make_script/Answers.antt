use Rattle.work_gen.proofs.LineLaws.{base_is_short}
use Rattle.work_gen.proofs.script.make_script.Goals as goal

pub numbered-requires : goal.numbered-requires
numbered-requires c = base_is_short _ c.in_ok-base_acts.ensures
