use Rattle.net.proofs.Weighing.{weight_laws}
use Rattle.net.proofs.theorems.weights_add_up.Goals as goal

pub returns : goal.returns
returns g c = weight_laws g.met.M.Measure.lawful
