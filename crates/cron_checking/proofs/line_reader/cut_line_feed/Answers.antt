use Rattle.std.proofs.Common.{◌≡◌, ◌==◌, ◌-◌, Bool, true, false, List, ℕ, [], ◌∷◌, ◌++◌, length, slice_index, take, subst, sym, refl, ap, ◌∙◌}
use Rattle.cron_checking.specs.Reading.{IsOneLine}
use Rattle.cron_checking.proofs.LineLemmas.{front_is_one_line, whole_is_one_line, with_line_feed}
use Rattle.cron_checking.proofs.line_reader.cut_line_feed.Goals as goal

-- what the test says of the piece itself
tested : (lent piece : List ℕ) (answer is : Bool) → lent ≡ piece → answer ≡ (slice_index lent (length lent - 1) == 10) → answer ≡ is
    → (slice_index piece (length piece - 1) == 10) ≡ is
tested lent piece answer is same test e = ap (λ (t : List ℕ). slice_index t (length t - 1) == 10) (sym same) ∙ (sym test ∙ e)

pub returns-then-not-has_line_feed : goal.returns-then-not-has_line_feed
returns-then-not-has_line_feed c = (
  refl,
  whole_is_one_line c.args.line.now.items c.requires.some c.requires.one
      (tested _ c.args.line.now.items _ false c.as_slice.ensures.value c.has_line_feed.ensures c.if-not-has_line_feed.true),
)

pub returns : goal.returns
returns c =
    let items = c.args.line.now.items in let size = sym c.as_slice.ensures.len ∙ ap length c.as_slice.ensures.value in
    let rest = c.pop-line_feed.ensures.rest ∙ ap (λ (n : ℕ). take (n - 1) items) size in
    let ends = tested _ items _ true c.as_slice.ensures.value c.has_line_feed.ensures c.if-not-has_line_feed.false in (
      with_line_feed items c.requires.some ends ∙ ap (λ (t : List ℕ). t ++ 10 ∷ []) (sym rest),
      subst IsOneLine (sym rest)
          (front_is_one_line items c.requires.one),
    )
