use Rattle.std.proofs.Common.{◌≡◌, drop}
use Rattle.shelf_io.specs.Texts.{text_of}
use Rattle.shelf_io.specs.MemShelf.{texts_of}
use Rattle.shelf_io.proofs.mem_shelves.find_text.Given as goal

abbrev pub invariant-loop-own : goal.invariant-loop-own
invariant-loop-own l =
    text_of (texts_of (drop l.own-index l.texts)) l.name ≡ text_of (texts_of l.texts) l.name
