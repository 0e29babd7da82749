-- Entries grouped by states, and what a machine of them lacks.
use Rattle.std.proofs.Common.{Vec, Global, map, ◌≡◌, ℕ, suc, ◌+◌, ◌-◌, ◌<◌, ◌≤◌, List, [], ◌∷◌, ◌++◌, append_assoc, append-nil, length, get_or, take, drop, refl, sym, ap, ◌∙◌, subst, pow_pos, arith}
use Rattle.std.specs.List.{All}
use Rattle.std.proofs.lemmas.Bool.{ne_eqb}
use Rattle.std.proofs.lemmas.List.{length-append, length-map, map-append, take_rest, get_or-drop, drop-drop, drop_more, drop_all, get_or_at, get_or_append_left, nil_from_length}
use Rattle.std.proofs.lemmas.List.Elements.{All-push}
use Rattle.word_core.specs.declared.machines.Line.{Line}
use Rattle.word_core.specs.declared.machines.MachineFault.TheVariants.{Gap}
use Rattle.word_core.specs.declared.names.Kind.{Kind}
use Rattle.word_core.specs.declared.names.Player.{Player}
use Rattle.word_core.specs.Machine.{MachineData, IsLine, IsDecided, IsLeastWithout, HasFault, own_width, other_width}
use Rattle.machine_text.specs.declared.reading.Entry.{Entry}
use Rattle.machine_text.specs.Reading.{IsEntry, first_lines, behind_state, spread, AreGrouped}
use Rattle.machine_text.proofs.EntryLaws.{first_other, spread_ranged, spread_length}

abbrev pub items : Vec Line Global → List Line
items v = v.items

pub ranged_push : (own others count : ℕ) (ss ts : List (Vec Line Global)) (v : Vec Line Global) → ts ≡ ss ++ v ∷ [] → All (All (IsLine own others count)) (map items ss) → All (IsLine own others count) v.items → All (All (IsLine own others count)) (map items ts)
ranged_push own others count ss ts v e h k =
    subst (All (All (IsLine own others count))) (sym (map-append items ss (v ∷ [])) ∙ ap (map items) (sym e)) (All-push (All (IsLine own others count)) (map items ss) v.items h k)

pub map_pushed : (ss ts : List (Vec Line Global)) (v : Vec Line Global) → ts ≡ ss ++ v ∷ [] → map items ts ≡ map items ss ++ v.items ∷ []
map_pushed ss ts v e = ap (map items) e ∙ map-append items ss (v ∷ [])

-- one more state
pub spread_more : (count n n' at size : ℕ) (es : List Entry) (done more : List (List Line)) (lines : List Line) (d : Entry) → spread 0 count es ≡ done ++ spread n (count - n) (drop at es) → n < count → (get_or es at d).state ≡ n → lines ≡ first_lines (get_or (take (length es - at) (drop at es)) 0 d).state (take (length es - at) (drop at es)) → drop (length lines) (take (length es - at) (drop at es)) ≡ behind_state (get_or (take (length es - at) (drop at es)) 0 d).state (take (length es - at) (drop at es)) → more ≡ done ++ lines ∷ [] → n' ≡ n + 1 → size ≡ length lines → spread 0 count es ≡ more ++ spread n' (count - n') (drop (at + size) es)
spread_more count n n' at size es done more lines d all l here first behind pushed next size_is =
    let R = drop at es in
    let r : take (length es - at) R ≡ R = take_rest es at in
    let z : at + 0 ≡ at = omega arith in
    let st : (get_or R 0 d).state ≡ n = ap (λ (e : Entry). e.state) (get_or-drop at es 0 d ∙ ap (λ i. get_or es i d) z) ∙ here in
    let f : lines ≡ first_lines n R = first ∙ ap (λ t. first_lines (get_or t 0 d).state t) r ∙ ap (λ s. first_lines s R) st in
    let b : drop (length lines) R ≡ behind_state n R = ap (drop (length lines)) (sym r) ∙ behind ∙ ap (λ t. behind_state (get_or t 0 d).state t) r ∙ ap (λ s. behind_state s R) st in
    let k : count - n ≡ suc (count - n') = omega arith in
    let rest : behind_state n R ≡ drop (at + size) es = sym b ∙ drop-drop (length lines) at es ∙ ap (λ m. drop (at + m) es) (sym size_is) in
    all
    ∙ ap (λ m. done ++ spread n m R) k
    ∙ ap (λ ls. done ++ ls ∷ spread (n + 1) (count - n') (behind_state n R)) (sym f)
    ∙ sym (append_assoc done (lines ∷ []) (spread (n + 1) (count - n') (behind_state n R)))
    ∙ ap (λ t. t ++ spread (n + 1) (count - n') (behind_state n R)) (sym pushed)
    ∙ ap (λ m. more ++ spread m (count - n') (behind_state n R)) (sym next)
    ∙ ap (λ t. more ++ spread n' (count - n') t) rest

none_here : (n at : ℕ) (es : List Entry) (d : Entry) → at < length es → ((get_or es at d).state ≡ n → ⊥) → first_lines n (drop at es) ≡ []
none_here n at es d l o =
    ap (first_lines n) (drop_more es at d l) ∙ first_other n (get_or es at d) (drop (at + 1) es) (ne_eqb (get_or es at d).state n o)

none_left : (n at : ℕ) (es : List Entry) → length es ≤ at → first_lines n (drop at es) ≡ []
none_left n at es l = ap (first_lines n) (drop_all at es l)

opened : (n count : ℕ) (rest : List Entry) → n < count → first_lines n rest ≡ [] → (more : List (List Line)) × (spread n (count - n) rest ≡ [] ∷ more)
opened n count rest l e =
    let k : count - n ≡ suc (count - (n + 1)) = omega arith in
    (spread (n + 1) (count - (n + 1)) (behind_state n rest), ap (λ m. spread n m rest) k ∙ ap (λ ls. ls ∷ spread (n + 1) (count - (n + 1)) (behind_state n rest)) e)

grouped_here : (count at : ℕ) (es : List Entry) (ss : List (Vec Line Global)) → length ss ≤ count → spread 0 count es ≡ map items ss ++ spread (length ss) (count - length ss) (drop at es) → first_lines (length ss) (drop at es) ≡ [] → AreGrouped count es (map items ss)
grouped_here count at es ss few all none =
    let m = length-map ss items in
    record {
      few = subst (λ n. n ≤ count) (sym m) few;
      missing = spread (length ss) (count - length ss) (drop at es);
      all = all;
      next = λ l. opened (length ss) count (drop at es) (subst (λ n. n < count) m l) none;
    }

pub grouped_at_end : (count at : ℕ) (es : List Entry) (ss : List (Vec Line Global)) → length ss ≤ count → spread 0 count es ≡ map items ss ++ spread (length ss) (count - length ss) (drop at es) → length es ≤ at → AreGrouped count es (map items ss)
grouped_at_end count at es ss few all l = grouped_here count at es ss few all (none_left (length ss) at es l)

pub grouped_at_other : (count at n : ℕ) (es : List Entry) (ss : List (Vec Line Global)) (d : Entry) → length ss ≤ count → spread 0 count es ≡ map items ss ++ spread (length ss) (count - length ss) (drop at es) → at < length es → n ≡ length ss → ((get_or es at d).state ≡ n → ⊥) → AreGrouped count es (map items ss)
grouped_at_other count at n es ss d few all l e o =
    grouped_here count at es ss few all (none_here (length ss) at es d l (λ h. o (h ∙ sym e)))

-- a gap in the states, where the next one has no line
open_state : (others : ℕ) → IsDecided others [] → ⊥
open_state others h = let s = h 0 (pow_pos others) in absurd cc

pub gap_here : (others n : ℕ) (ss more : List (List Line)) → n ≡ length ss → All (IsDecided others) ss → IsLeastWithout (IsDecided others) (ss ++ [] ∷ more) n
gap_here others n ss more e h = (
  (let l = length-append ss ([] ∷ more) in let m : length ([] ∷ more) ≡ suc (length more) = refl in omega arith),
  (λ d. open_state others (subst (IsDecided others) (get_or_at ss [] more [] n (sym e)) d)),
  (λ t l. let k : t < length ss = omega arith in subst (IsDecided others) (sym (get_or_append_left ss ([] ∷ more) [] t k)) (h t [] k)),
)

pub gap_before : (others g : ℕ) (ss more : List (List Line)) → IsLeastWithout (IsDecided others) ss g → IsLeastWithout (IsDecided others) (ss ++ [] ∷ more) g
gap_before others g ss more h =
    let l : g < length ss = h.0 in (
      (let k = length-append ss ([] ∷ more) in omega arith),
      (λ d. h.1 (subst (IsDecided others) (get_or_append_left ss ([] ∷ more) [] g l) d)),
      (λ t m. let k : t < length ss = omega arith in subst (IsDecided others) (sym (get_or_append_left ss ([] ∷ more) [] t k)) (h.2 t m)),
    )

-- the machine of the lines of so many states
abbrev pub made : Player → Kind → ℕ → ℕ → List (List Line) → MachineData
made player kind inputs outputs states = record { player = player; kind = kind; inputs = inputs; outputs = outputs; states = states }

pub made_gap : (player : Player) (kind : Kind) (i o count others g : ℕ) (es : List Entry) (ss : List (List Line)) → others ≡ other_width player i o → All (IsEntry (own_width player i o) (other_width player i o) count) es → AreGrouped count es ss → length ss < count → ((more : List (List Line)) → IsLeastWithout (IsDecided others) (ss ++ [] ∷ more) g) → HasFault (made player kind i o (spread 0 count es)) (Gap g)
made_gap player kind i o count others g es ss w h grouped l gap =
    let open' = grouped.next l in
    let same : spread 0 count es ≡ ss ++ [] ∷ open'.0 = grouped.all ∙ ap (λ t. ss ++ t) open'.1 in (
      subst (λ n. All (All (IsLine (own_width player i o) (other_width player i o) n)) (spread 0 count es)) (sym (spread_length 0 count es)) (spread_ranged (own_width player i o) (other_width player i o) count 0 count es h),
      subst (λ states. IsLeastWithout (IsDecided (other_width player i o)) states g) (sym same) (subst (λ n. IsLeastWithout (IsDecided n) (ss ++ [] ∷ open'.0) g) w (gap open'.0)),
    )

-- no state is without lines
pub grouped_whole : (count : ℕ) (es : List Entry) (ss : List (List Line)) → AreGrouped count es ss → count ≤ length ss → ss ≡ spread 0 count es
grouped_whole count es ss g l =
    let a = spread_length 0 count es in
    let b : length (spread 0 count es) ≡ length (ss ++ g.missing) = ap length g.all in
    let c = length-append ss g.missing in
    let n : length g.missing ≡ 0 = omega arith in
    sym (g.all ∙ ap (λ t. ss ++ t) (nil_from_length g.missing n) ∙ append-nil ss)

pub counted : (ss : List (Vec Line Global)) (n count : ℕ) → n ≡ length ss → count ≤ n → count ≤ length (map items ss)
counted ss n count e l = let m = length-map ss items in omega arith

pub counted_less : (ss : List (Vec Line Global)) (n count : ℕ) → n ≡ length ss → n < count → length (map items ss) < count
counted_less ss n count e l = let m = length-map ss items in omega arith
