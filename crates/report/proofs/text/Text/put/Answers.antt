use Rattle.report.proofs.Laying.{wrote_in, wrote_out}
use Rattle.report.proofs.text.Text.put.Goals as goal
use Rattle.report.proofs.text.Text.put.Goals.{then-self, else-self}

pub returns : goal.returns
returns c = elim c.if-self.branch [ then-self w ↦ rw w.self-is wrote_in | else-self w ↦ rw w.self-is (wrote_out w.if-self.false) ]
