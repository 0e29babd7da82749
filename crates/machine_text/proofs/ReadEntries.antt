-- Entries, as they are read one after another.
use Rattle.std.proofs.Common.{false, nat_eq, ◌≡◌, ℕ, ◌+◌, ◌≤◌, List, [], ◌∷◌, ◌++◌, append_assoc, length, refl, sym, ap, ◌∙◌, subst, arith}
use Rattle.std.proofs.lemmas.Bool.{false≢true}
use Rattle.std.proofs.lemmas.List.{length_push}
use Rattle.std.proofs.lemmas.List.Elements.{All-push}
use Rattle.machine_text.specs.declared.errors.MachineError.TheVariants.{Line}
use Rattle.machine_text.specs.declared.reading.Entry.{Entry}
use Rattle.machine_text.specs.Lines.{joined, IsWhole}
use Rattle.machine_text.specs.Machines.{line_text}
use Rattle.machine_text.specs.Reading.{IsEntry, IsEntryLine, entry_lines, Ascends, last_state, AreRead, HasEntryFault}
use Rattle.machine_text.proofs.LineLaws.{joined_append}
use Rattle.machine_text.proofs.LineSplits.{none_without_feed, none_of}

entries_push : (own others : ℕ) (es : List Entry) (e : Entry) → entry_lines own others (es ++ e ∷ []) ≡ entry_lines own others es ++ line_text own others e.state e.line ∷ []
entries_push own others [] e = refl
entries_push own others (d ∷ es) e = ap (λ ls. line_text own others d.state d.line ∷ ls) (entries_push own others es e)

ascends_push : (from : ℕ) (es : List Entry) (e : Entry) → Ascends from es → last_state from es ≤ e.state → Ascends from (es ++ e ∷ [])
ascends_push from [] e a l = (l, tt)
ascends_push from (d ∷ es) e a l = (a.0, ascends_push d.state es e a.1 l)

last_push : (from : ℕ) (es : List Entry) (e : Entry) → last_state from (es ++ e ∷ []) ≡ e.state
last_push from [] e = refl
last_push from (d ∷ es) e = last_push d.state es e

pub last_more : (es fs : List Entry) (e : Entry) → fs ≡ es ++ e ∷ [] → e.state ≡ last_state 0 fs
last_more es fs e f = sym (last_push 0 es e) ∙ ap (last_state 0) (sym f)

pub read_entry_more : (own others count : ℕ) (text line rest now : List ℕ) (taken before after from : ℕ) (es fs : List Entry) (e : Entry) → AreRead own others count text now taken before es → fs ≡ es ++ e ∷ [] → now ≡ line ++ 10 ∷ rest → after ≡ before + 1 → from ≡ last_state 0 es → IsEntry own others count e × (from ≤ e.state) × (line ≡ line_text own others e.state e.line) → AreRead own others count text rest taken after fs
read_entry_more own others count text line rest now taken before after from es fs e r f fed a l h =
    subst (AreRead own others count text rest taken after) (sym f) (record {
      ranged = All-push (IsEntry own others count) es e r.ranged h.0;
      ascends = ascends_push 0 es e r.ascends (subst (λ n. n ≤ e.state) l h.1);
      parts =
          r.parts
          ∙ ap (λ t. joined (entry_lines own others es) ++ t) (fed ∙ ap (λ t. t ++ 10 ∷ rest) h.2 ∙ sym (append_assoc (line_text own others e.state e.line) (10 ∷ []) rest))
          ∙ sym (append_assoc (joined (entry_lines own others es)) (line_text own others e.state e.line ++ 10 ∷ []) rest)
          ∙ ap (λ t. t ++ rest) (sym (joined_append (entry_lines own others es) (line_text own others e.state e.line ∷ [])) ∙ ap joined (sym (entries_push own others es e)));
      place = (let p = r.place in let n = length_push es e in omega arith);
    })

not_empty : (rest : List ℕ) → false ≡ nat_eq (length rest) 0 → rest ≡ [] → ⊥
not_empty rest f e = false≢true (f ∙ ap (λ r. nat_eq (length r) 0) e)

pub entries_unfed : (own others count taken before m : ℕ) (text rest : List ℕ) (es : List Entry) → AreRead own others count text rest taken before es → m ≡ before + 1 → false ≡ nat_eq (length rest) 0 → IsWhole rest → HasEntryFault own others count text taken (Line m)
entries_unfed own others count taken before m text rest es r a f w = (
  es,
  rest,
  before,
  r,
  a,
  not_empty rest f,
  none_without_feed (IsEntryLine own others (last_state 0 es) count) rest w,
)

pub entries_other : (own others count taken before m from : ℕ) (text line rest rest' : List ℕ) (es : List Entry) → AreRead own others count text rest taken before es → m ≡ before + 1 → false ≡ nat_eq (length rest) 0 → IsWhole line → rest ≡ line ++ 10 ∷ rest' → from ≡ last_state 0 es → (IsEntryLine own others from count line → ⊥) → HasEntryFault own others count text taken (Line m)
entries_other own others count taken before m from text line rest rest' es r a f w fed l n = (
  es,
  rest,
  before,
  r,
  a,
  not_empty rest f,
  none_of (IsEntryLine own others (last_state 0 es) count) rest line rest' w fed (subst (λ x. IsEntryLine own others x count line → ⊥) l n),
)
