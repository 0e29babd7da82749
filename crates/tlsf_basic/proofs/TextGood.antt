-- What reading a text gives, and where it stops.
use Rattle.std.proofs.Common.{◌≡◌, ℕ, ◌≤◌, false, List, [], ◌∷◌, ◌++◌, Result, Ok, Err, sym, refl, ap, ◌∙◌, subst, append-nil}
use Rattle.tlsf_basic.specs.declared.faults.TextFault.{TextFault}
use Rattle.tlsf_basic.specs.declared.faults.TextFault.TheVariants.{TooDeep}
use Rattle.tlsf_basic.specs.declared.headings.Heading.{Heading}
use Rattle.tlsf_basic.specs.declared.mains.Sections.{Sections}
use Rattle.tlsf_basic.specs.declared.symbols.Lexeme.{Lexeme}
use Rattle.tlsf_basic.specs.Reads.{Halt, Read, ◌>>=◌, expected}
use Rattle.tlsf_basic.specs.Marks.{end}
use Rattle.tlsf_basic.specs.Headings.{read_heading}
use Rattle.tlsf_basic.specs.Mains.{read_main, read_text}
use Rattle.tlsf_basic.specs.TextGrammar.{IsMain, is_whole_main, IsText, is_whole_text}
use Rattle.tlsf_basic.specs.TextBegins.{BeginsHeading, BeginsMain, whole_main, BeginsText, in_heading, behind_heading}
use Rattle.tlsf_basic.specs.TextFaults.{Lacks, in_first, in_later, LacksInHeading, LacksInMain}
use Rattle.tlsf_basic.proofs.Good.{Stops, By, Alike, Good, then, map_value}
use Rattle.tlsf_basic.proofs.Stopping.{ends_operand, ends-append, Stop, not_expected, stop_behind}
use Rattle.tlsf_basic.proofs.HeadingGood.{HeadingTextOf, HeadingStop, at_heading}
use Rattle.tlsf_basic.proofs.MainGood.{MainStop, at_main_part, closed_quiet}
use Rattle.tlsf_basic.proofs.TextRead.{heading_read, main_read}

abbrev Text : Type 0
Text = Heading × Sections

-- the same without a look at what stands behind
abbrev read_front : ℕ → List Lexeme → Read Text
read_front n w = read_heading w >>= λ r. read_main n r.1 >>= λ q. Ok ((r.0, q.0), q.1)

abbrev ended : Read Text → Result Text Halt
ended r = r >>= λ q. end q.1 >>= λ z. Ok q.0

main_same : (h : Heading) (r : Read Sections) → (r >>= λ q. end q.1 >>= λ z. Ok (h, q.0)) ≡ ended (r >>= λ q. Ok ((h, q.0), q.1))
main_same h (Ok q) = refl
main_same h (Err e) = refl

heading_same : (n : ℕ) (r : Read Heading) → (r >>= λ r. read_main n r.1 >>= λ q. end q.1 >>= λ z. Ok (r.0, q.0)) ≡ ended (r >>= λ r. read_main n r.1 >>= λ q. Ok ((r.0, q.0), q.1))
heading_same n (Ok r) = main_same r.0 (read_main n r.1)
heading_same n (Err e) = refl

text_same : (n : ℕ) (w : List Lexeme) → read_text n w ≡ ended (read_front n w)
unfolding read_text
text_same n w = heading_same n (read_heading w)

main_quiet : (n : ℕ) (w : List Lexeme) (all : Sections) → IsMain n w all → ends_operand w ≡ false
main_quiet n w all (is_whole_main a b c v i row xs ei eo ic) = closed_quiet (a ∷ b ∷ v) c ic

abbrev pub TextStop : ℕ → Stops
TextStop n = Stop (Lacks n) BeginsText n

module _ (Fits : TextFault → Type 0) (n m : ℕ) (le : n ≤ m) (fits : Fits TooDeep → n ≡ m) where
  -- a text at the front, which ends with a closing brace
  abbrev Front : List Lexeme → Text → Type 0
  Front u x = IsText n u x × BeginsText n u × (ends_operand u ≡ false)

  at_front_text : (w : List Lexeme) → Good Fits Front (TextStop n) (By (read_front m)) w (read_front n w)
  at_front_text w =
      then Fits (HeadingTextOf Fits n) (HeadingStop Fits n) read_heading (λ r. read_main m r.1 >>= λ q. Ok ((r.0, q.0), q.1)) Front (TextStop n) w (read_heading w) (λ r. read_main n r.1 >>= λ q. Ok ((r.0, q.0), q.1))
      (at_heading Fits n w)
      (λ p f v h. stop_behind LacksInHeading (Lacks n) (λ k. BeginsHeading) BeginsText n [] p f v (λ k r i b. in_heading r b) (λ e. e) (λ part x. in_first part p v x) h)
      (λ u a v e h. map_value Fits (IsMain n) (λ x b. Front (u ++ x) b) (MainStop Fits n m le fits) (λ p f z. TextStop n (u ++ p) f z) (read_main m) (λ all. (a, all)) v (read_main n v)
      (λ x all y. (is_whole_text u x a all h.0 y, behind_heading u x a h.0 (whole_main x all y), ends-append u x h.1 (main_quiet n x all y)))
      (λ p f z st. stop_behind (LacksInMain n) (Lacks n) BeginsMain BeginsText n u p f z (λ k r i b. behind_heading u r a h.0 b) (ends-append u p h.1) (λ part x. in_later part u a p z h.0 x) st)
      (at_main_part Fits n m le fits v))

  -- where reading stops, and that another reading of other tokens stops there too
  abbrev pub Halted : List Lexeme → TextFault → List Lexeme → Type 0
  Halted w f v = (p : List Lexeme) × (w ≡ p ++ v) × TextStop n p f v × (Fits f → (x : List Lexeme) → Alike v x → read_text m (p ++ x) ≡ Err (f, x))

  abbrev pub Outcome : List Lexeme → Result Text Halt → Type 0
  Outcome w (Ok x) = IsText n w x
  Outcome w (Err h) = Halted w h.0 h.1

  past_end : (u : List Lexeme) (x : Text) (t : Lexeme) (ts y : List Lexeme) → read_front m (u ++ y) ≡ Ok (x, y) → Alike (t ∷ ts) y → read_text m (u ++ y) ≡ Err (expected (t ∷ ts), y)
  unfolding end
  past_end u x t ts [] e al = absurd al
  past_end u x t ts (s ∷ ss) e al = text_same m (u ++ s ∷ ss) ∙ ap ended e ∙ subst (λ z. ended (Ok (x, z ∷ ss)) ≡ Err (expected (t ∷ ts), z ∷ ss)) al refl

  outcome-go : (w : List Lexeme) (r : Read Text) → Good Fits Front (TextStop n) (By (read_front m)) w r → Outcome w (ended r)
  unfolding end
  outcome-go w (Ok (x, [])) (u, e, text, l) = subst (λ z. IsText n z x) (sym (e ∙ append-nil u)) text.0
  outcome-go w (Ok (x, t ∷ ts)) (u, e, text, l) =
      (u, e, not_expected text.1 refl text.2, λ f y al. past_end u x t ts y (l y al) al)
  outcome-go w (Err h) (p, e, stop, l) = (p, e, stop, λ f y al. text_same m (p ++ y) ∙ ap ended (l f y al))

  pub outcome : (w : List Lexeme) → Outcome w (read_text n w)
  outcome w = subst (Outcome w) (sym (text_same n w)) (outcome-go w (read_front n w) (at_front_text w))

pub text_read : (n m : ℕ) (w : List Lexeme) (x : Text) → IsText n w x → n ≤ m → read_text m w ≡ Ok x
unfolding read_text end
text_read n m w x (is_whole_text u v h all head main) le =
    ap (λ r. r >>= λ r. read_main m r.1 >>= λ q. end q.1 >>= λ z. Ok (r.0, q.0)) (heading_read u h head v)
    ∙ ap (λ r. r >>= λ q. end q.1 >>= λ z. Ok (h, q.0)) (ap (read_main m) (sym (append-nil v)) ∙ main_read m n v all main le [])
