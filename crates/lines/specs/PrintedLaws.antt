-- Printing one thing after another. Assumes nothing.
use Rattle.std.specs.Prelude.{ℕ, ◌+◌, ◌≤◌, ◌≡◌, List, [], ◌++◌, length, take, drop}
use Rattle.std.proofs.Common.{arith, sym, ap, ◌∙◌, append_assoc, length-append, drop-drop}
use Rattle.std.proofs.Math.Seq.{paste, paste-zero, take-length}
use Rattle.std.proofs.lemmas.List.Edits.{length-paste, take-paste, drop-paste}
use Rattle.lines.specs.Printed.{Printed}

-- printed bytes are as they are, between what was before and what was behind
whole : (d : List ℕ) (at : ℕ) (s : List ℕ) → paste d at s (length s) ≡ take at d ++ s ++ drop (at + length s) d
whole d at s = ap (λ (x : List ℕ). take at d ++ x ++ drop (at + length s) d) (take-length s)

pub printed_length : {d : List ℕ} {at : ℕ} {s : List ℕ} {next : ℕ} {e : List ℕ} → Printed d at s next e → length e ≡ length d
printed_length {d} {at} {s} p = ap length p.stands ∙ length-paste d at s (length s) p.room (omega arith)

-- nothing
pub printed_none : (d : List ℕ) (at : ℕ) → at ≤ length d → Printed d at [] at d
printed_none d at h = record { room = omega arith; behind = omega arith; stands = paste-zero d at [] }

-- one thing, and another behind it
pub printed_then : {d e f : List ℕ} {at next last : ℕ} {s t : List ℕ} → Printed d at s next e → Printed e next t last f → Printed d at (s ++ t) last f
printed_then {d} {e} {f} {at} {next} {last} {s} {t} p q =
    let n = length-append s t in
    let h : at + (length s + length t) ≤ length d = omega (arith, p.behind, q.room, printed_length p) in
    let a : take (at + length s) e ≡ take at d ++ s = rw p.stands (take-paste d at s (length s) (omega arith) (omega arith) ∙ ap (λ (x : List ℕ). take at d ++ x) (take-length s)) in
    let b : drop (at + length s) e ≡ drop (at + length s) d = rw p.stands (drop-paste d at s (length s) (omega arith) (omega arith)) in
    let c : drop (at + length s + length t) e ≡ drop (at + length s + length t) d =
    sym (drop-drop (length t) (at + length s) e) ∙ (ap (λ (x : List ℕ). drop (length t) x) b ∙ drop-drop (length t) (at + length s) d) in
    let g : at + length (s ++ t) ≡ at + length s + length t = omega arith in
    record {
      room = omega arith;
      behind = omega (arith, p.behind, q.behind);
      stands =
          q.stands
          ∙ (whole e next t
          ∙ (rw (p.behind, a, c) (ap (λ (x : List ℕ). x ++ drop (at + length s + length t) d) (append_assoc (take at d) s t))
          ∙ (ap (λ (k : ℕ). take at d ++ (s ++ t) ++ drop k d) (sym g) ∙ sym (whole d at (s ++ t)))));
    }
