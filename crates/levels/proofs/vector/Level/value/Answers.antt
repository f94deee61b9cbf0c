-- Both counts fit. Assumes nothing.
use Rattle.tables.proofs.Starting.{sub_back}
use Rattle.levels.proofs.vector.Level.value.Goals as goal

pub returns : goal.returns
returns c = sub_back c.args.self.up c.args.self.down c.requires.0 c.requires.1
