-- Kinds as they are kept.
use Rattle.std.specs.Prelude.{ℕ, Vec}
use Rattle.std.specs.declared.alloc.Global.{Global}
use Rattle.nba_quotient.specs.Ways.{Way, Kind}

abbrev pub kind_of : ℕ × Vec Way Global → Kind
kind_of k = (k.0, k.1.items)
