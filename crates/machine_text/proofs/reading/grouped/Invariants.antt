use Rattle.std.proofs.Common.{◌≡◌, ◌-◌, ◌≤◌, ◌++◌, map, length, drop}
use Rattle.std.specs.List.{All}
use Rattle.word_core.specs.Machine.{IsLine}
use Rattle.machine_text.specs.Reading.{spread}
use Rattle.machine_text.proofs.reading.grouped.Given as goal

abbrev pub invariant-loop-at : goal.invariant-loop-at
invariant-loop-at l = record {
  within : l.at ≤ length l.entries;
  few : length l.states.items ≤ l.count;
  ranged : All (All (IsLine l.own l.others l.count)) (map (λ lines. lines.items) l.states.items);
  all : spread 0 l.count l.entries ≡ map (λ lines. lines.items) l.states.items ++ spread (length l.states.items) (l.count - length l.states.items) (drop l.at l.entries);
}

abbrev pub decreases-loop-at : goal.decreases-loop-at
decreases-loop-at l = length l.entries - l.at
