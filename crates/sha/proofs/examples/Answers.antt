use Rattle.sha.proofs.Computed.{known}
use Rattle.sha.proofs.Stated.{stated}
use Rattle.sha.proofs.examples.Goals as goal

pub returns-clause-known : goal.returns-clause-known
returns-clause-known c = known

pub returns-clause-stated : goal.returns-clause-stated
returns-clause-stated c = stated
