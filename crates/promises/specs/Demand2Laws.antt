-- Demand 2 holds of every file that make answers, and of what any file says. Assumes nothing.
use Rattle.std.specs.Prelude.{ℕ, ◌-◌, ◌≡◌, ◌≢◌, length, take}
use Rattle.std.proofs.Common.{sym, ◌∙◌, ne_eqb}
use Rattle.std.proofs.Math.Path.{ap, subst}
use mathlib.Core.List.{List, [], ◌∷◌, Memᴰ}
use Rattle.plant.specs.Marks.{Starts, Code}
use Rattle.plant.specs.Reflect.{is_le, is_and, is_true}
use Rattle.sheet.specs.Model.{Sheet, word, plant}
use Rattle.sheet.specs.Table.{Entry, at}
use Rattle.table.specs.Read.{reading}
use Rattle.table.specs.TableBytes.{read_back, back_written}
use Rattle.table.specs.Replies.{lookup, refused, row_reply, listed, listing_reply}
use Rattle.table.specs.declared.row.RowReply.{RowReply}
use Rattle.state.specs.Lent.{lent}
use Rattle.quick.specs.QuickLaws.{quick_is_row}
use Rattle.maker.specs.Making.{Made}
use Rattle.maker.specs.declared.MakeReply.{MakeReply}
use Rattle.promises.specs.Demand2.{Demand2, ReadExactly}
use Rattle.promises.specs.MadeLaws.{Done, is_done, done_read}
use Rattle.promises.specs.TakenLaws.{of_state, found}

-- a word that no row has
lookup_none : (w : ℕ) (rows : List Entry) → ((e : Entry) → Memᴰ e rows → e.word ≢ w) → lookup w rows ≡ refused 8 0
unfolding lookup
lookup_none w [] f = λ i. refused 8 0
lookup_none w (e ∷ rows) f = rw (ne_eqb e.word w (f e (Memᴰ.head (λ i. e)))) (lookup_none w rows (λ d m. f d (Memᴰ.tail m)))

module _ {numbers file : List ℕ} (d : Done numbers file) where
  σ : Sheet
  σ = lent numbers

  row_is : (w : ℕ) → row_reply w (reading file) ≡ lookup w d.rows
  row_is w = ap (row_reply w) (done_read d)

  pub done_demand_2 : Demand2 numbers file
  unfolding σ
  done_demand_2 = record {
    rows = d.rows;
    right = d.right;
    read = done_read d;
    row = λ q row.
        let r = row_is (word q) ∙ found σ d.sheet d.rows d.right q row in
        let e = of_state σ d.sheet d.rows d.right q row in (
          ap (λ (t : RowReply). t.number) r,
          subst (Starts (plant σ) q) (sym (ap (λ (t : RowReply). t.starts) r)) e.starts,
          subst (Code (plant σ) q) (sym (ap (λ (t : RowReply). t.tick) r)) e.tick,
        );
    no_row = λ w f. row_is w ∙ lookup_none w d.rows (λ e m x. let s = d.right.each e m in f s.0 s.1 (sym s.2.word ∙ x));
    quick_row = λ w r. quick_is_row file w r σ d.rows (done_read d);
    listing = λ i a b. ap (listing_reply i) (done_read d) ∙ rw (is_true (is_and (is_le 1 i) (is_le i (length d.rows))) (a, b)) (λ k. listed σ d.rows (at d.rows (i - 1)));
  }

-- DEMAND 2
pub demand_2 : {numbers work₀ work out₀ out : List ℕ} {r : MakeReply} → Made numbers work₀ work out₀ out r → r.number ≡ 0 → Demand2 numbers (take r.length out)
demand_2 m z = done_demand_2 (is_done m z)

pub read_exactly : ReadExactly
read_exactly file σ rows = (back_written file σ rows, λ w. ap reading w.1 ∙ read_back w.0)
