-- The words that a block holds. Assumes nothing.
use Rattle.std.specs.Prelude.{ℕ, List, take}
use Rattle.words.specs.declared.block.Block.{Block}

abbrev pub held : Block → List ℕ
held b = take b.count b.words
