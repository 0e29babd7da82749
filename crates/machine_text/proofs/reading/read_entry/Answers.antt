use Rattle.std.proofs.Common.{◌++◌, codes, ◌∷◌}
use Rattle.std.specs.Fmt.{decimal}
use Rattle.machine_text.proofs.ReadLaws.{from_pattern, from_own, at_state, behind_space, at_pattern, behind_arrow, at_own, at_next_none, at_next_longer}
use Rattle.machine_text.proofs.reading.read_entry.Goals as goal

pub returns-in_err-behind : goal.returns-in_err-behind
returns-in_err-behind c = rw c.from_residual-in_err-behind.ensures (λ s l a b h k e. c.in_err-behind.ensures (from_pattern c.args.own c.args.others l) (at_state c.args.own c.args.others c.in_ok-state.state s l c.args.line.now c.in_ok-state.rest.now c.in_ok-state.ensures a e))

pub returns-in_err-when : goal.returns-in_err-when
returns-in_err-when c =
    rw c.from_residual-in_err-when.ensures (λ s l a b h k e. c.in_err-when.ensures l.when (codes " -> " ++ from_own c.args.own l) h (behind_space c.in_ok-state.rest.now c.in_ok-behind.field-0.now (from_pattern c.args.own c.args.others l) c.in_ok-behind.ensures (at_state c.args.own c.args.others c.in_ok-state.state s l c.args.line.now c.in_ok-state.rest.now c.in_ok-state.ensures a e)))

pub returns-in_err-behind-2 : goal.returns-in_err-behind-2
returns-in_err-behind-2 c =
    rw c.from_residual-in_err-behind-2.ensures (λ s l a b h k e. c.in_err-behind-2.ensures (from_own c.args.own l) (at_pattern c.args.own c.args.others c.in_ok-when.when l c.in_ok-behind.field-0.now c.in_ok-when.rest.now c.in_ok-when.ensures h (behind_space c.in_ok-state.rest.now c.in_ok-behind.field-0.now (from_pattern c.args.own c.args.others l) c.in_ok-behind.ensures (at_state c.args.own c.args.others c.in_ok-state.state s l c.args.line.now c.in_ok-state.rest.now c.in_ok-state.ensures a e))))

pub returns-in_err-own : goal.returns-in_err-own
returns-in_err-own c =
    rw c.from_residual-in_err-own.ensures (λ s l a b h k e. c.in_err-own.ensures l.own (32 ∷ decimal l.next) k (behind_arrow c.in_ok-when.rest.now c.in_ok-behind-2.field-0.now (from_own c.args.own l) c.in_ok-behind-2.ensures (at_pattern c.args.own c.args.others c.in_ok-when.when l c.in_ok-behind.field-0.now c.in_ok-when.rest.now c.in_ok-when.ensures h (behind_space c.in_ok-state.rest.now c.in_ok-behind.field-0.now (from_pattern c.args.own c.args.others l) c.in_ok-behind.ensures (at_state c.args.own c.args.others c.in_ok-state.state s l c.args.line.now c.in_ok-state.rest.now c.in_ok-state.ensures a e)))))

pub returns-in_err-behind-3 : goal.returns-in_err-behind-3
returns-in_err-behind-3 c =
    rw c.from_residual-in_err-behind-3.ensures (λ s l a b h k e. c.in_err-behind-3.ensures (decimal l.next) (at_own c.args.own c.in_ok-own.own l c.in_ok-behind-2.field-0.now c.in_ok-own.rest.now c.in_ok-own.ensures k (behind_arrow c.in_ok-when.rest.now c.in_ok-behind-2.field-0.now (from_own c.args.own l) c.in_ok-behind-2.ensures (at_pattern c.args.own c.args.others c.in_ok-when.when l c.in_ok-behind.field-0.now c.in_ok-when.rest.now c.in_ok-when.ensures h (behind_space c.in_ok-state.rest.now c.in_ok-behind.field-0.now (from_pattern c.args.own c.args.others l) c.in_ok-behind.ensures (at_state c.args.own c.args.others c.in_ok-state.state s l c.args.line.now c.in_ok-state.rest.now c.in_ok-state.ensures a e))))))

pub returns-in_err-next : goal.returns-in_err-next
returns-in_err-next c =
    rw c.from_residual-in_err-next.ensures (λ s l a b h k e. at_next_none l.next c.in_ok-behind-3.field-0.now c.in_err-next.ensures b (behind_space c.in_ok-own.rest.now c.in_ok-behind-3.field-0.now (decimal l.next) c.in_ok-behind-3.ensures (at_own c.args.own c.in_ok-own.own l c.in_ok-behind-2.field-0.now c.in_ok-own.rest.now c.in_ok-own.ensures k (behind_arrow c.in_ok-when.rest.now c.in_ok-behind-2.field-0.now (from_own c.args.own l) c.in_ok-behind-2.ensures (at_pattern c.args.own c.args.others c.in_ok-when.when l c.in_ok-behind.field-0.now c.in_ok-when.rest.now c.in_ok-when.ensures h (behind_space c.in_ok-state.rest.now c.in_ok-behind.field-0.now (from_pattern c.args.own c.args.others l) c.in_ok-behind.ensures (at_state c.args.own c.args.others c.in_ok-state.state s l c.args.line.now c.in_ok-state.rest.now c.in_ok-state.ensures a e)))))))

pub returns-else-is_empty : goal.returns-else-is_empty
returns-else-is_empty c =
    λ s l a b h k e. at_next_longer l.next c.in_ok-next.next c.in_ok-behind-3.field-0.now c.in_ok-next.rest.now c.in_ok-next.ensures c.if-is_empty.ensures b (behind_space c.in_ok-own.rest.now c.in_ok-behind-3.field-0.now (decimal l.next) c.in_ok-behind-3.ensures (at_own c.args.own c.in_ok-own.own l c.in_ok-behind-2.field-0.now c.in_ok-own.rest.now c.in_ok-own.ensures k (behind_arrow c.in_ok-when.rest.now c.in_ok-behind-2.field-0.now (from_own c.args.own l) c.in_ok-behind-2.ensures (at_pattern c.args.own c.args.others c.in_ok-when.when l c.in_ok-behind.field-0.now c.in_ok-when.rest.now c.in_ok-when.ensures h (behind_space c.in_ok-state.rest.now c.in_ok-behind.field-0.now (from_pattern c.args.own c.args.others l) c.in_ok-behind.ensures (at_state c.args.own c.args.others c.in_ok-state.state s l c.args.line.now c.in_ok-state.rest.now c.in_ok-state.ensures a e))))))
