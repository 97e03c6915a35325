use Rattle.std.proofs.Common.{◌<◌, sym, ◌∙◌, arith}
use Rattle.std.proofs.lemmas.Bool.{lt-ltb}
use Rattle.sheet.specs.Reading.{count}
use Rattle.sheet.proofs.Opened.{made}
use Rattle.sheet.proofs.reading.Reader.order.Goals as goal

pub returns-clause-read : goal.returns-clause-read
returns-clause-read c =
    let s = c.args.self.now in
    let bs = s.sheet.bytes.now in
    let within : c.args.i < count bs = omega arith in
    c.ok.ensures.variant ∙ made bs c.args.i s.faultless within c.order.result c.order.ensures ∙ sym (lt-ltb c.args.i (count bs) within)
