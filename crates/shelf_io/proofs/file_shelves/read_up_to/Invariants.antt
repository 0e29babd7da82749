use Rattle.std.proofs.Common.{◌≤◌, vec_len}
use Rattle.shelf_io.proofs.file_shelves.read_up_to.Given as goal

abbrev pub invariant-loop : goal.invariant-loop
invariant-loop g l = vec_len l.text ≤ l.cap
