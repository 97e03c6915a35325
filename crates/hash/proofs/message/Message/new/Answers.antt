use Rattle.std.proofs.Common.{[], sym, subst}
use Rattle.hash.specs.Digests.{Stands}
use Rattle.hash.proofs.Ends.{none}
use Rattle.hash.proofs.message.Message.new.Goals as goal

pub returns-clause-begun : goal.returns-clause-begun
returns-clause-begun g c =
    let m = g.C.Cipher.meaning c.args.cipher.now in
    subst (λ h. Stands m 0 [] h []) (sym c.new.ensures.begun) (none m)
