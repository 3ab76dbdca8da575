-- Texts one after another, and rows of entries.
use Rattle.std.proofs.Common.{◌≡◌, ℕ, suc, ◌+◌, ◌<◌, List, [], ◌∷◌, ◌++◌, get_or, length, refl, sym, subst, take, take-suc, ap, ◌∙◌, append_assoc, append-nil, arith}
use Rattle.std.proofs.lemmas.List.{length-take-le}
use Rattle.jiff_tz.specs.declared.timezone.TimeZone.{TimeZone}
use Rattle.cron_calendar.specs.Json.{day_objects}
use Rattle.cron_calendar.specs.Pages.{AreRows, entry_row}
use Rattle.cron_calendar.specs.Plans.{counts_of, totals}
use Rattle.cron_calendar.specs.declared.html.Entry.{Entry}
use Rattle.cron_calendar.specs.declared.html.shapes.Shape.{Shape}
use Rattle.cron_calendar.specs.declared.plans.Plan.{Plan}

-- a text, and then more
pub on : (old mid new p q : List ℕ) → mid ≡ old ++ p → new ≡ mid ++ q → new ≡ old ++ (p ++ q)
on old mid new p q e f = f ∙ (ap (λ t. t ++ q) e ∙ append_assoc old p q)

pub on_nothing : (old new text : List ℕ) → old ≡ [] → new ≡ old ++ text → new ≡ text
on_nothing old new text none e = e ∙ ap (λ t. t ++ text) none

one_more : (es : List Entry) (i : ℕ) (e d : Entry) → i < length es → e ≡ get_or es i d → take i es ++ e ∷ [] ≡ take (i + 1) es
one_more es i e d within is =
    let next : i + 1 ≡ suc i = omega arith in
    ap (λ x. take i es ++ x ∷ []) is ∙ (sym (take-suc es i d within) ∙ ap (λ n. take n es) (sym next))

-- a row more
rows-more : (place last : ℕ) (es : List Entry) (e : Entry) (rows : List ℕ) (strip : List Shape) → last ≡ place + length es → AreRows place es rows
    → AreRows place (es ++ e ∷ []) (rows ++ entry_row last e strip)
rows-more place last [] e rows strip at are =
    let here : last ≡ place = omega arith in
    (strip, [], rw (are, here) (sym (append-nil (entry_row place e strip))), refl)
rows-more place last (f ∷ es) e rows strip at are =
    let (own, rest, is, more) = are in (
      own,
      rest ++ entry_row last e strip,
      ap (λ t. t ++ entry_row last e strip) is ∙ append_assoc (entry_row place f own) rest (entry_row last e strip),
      rows-more (place + 1) last es e rest strip (omega (arith, at)) more,
    )

-- the row of the next entry
pub next_row : (es : List Entry) (i : ℕ) (old mid new rows : List ℕ) (e d : Entry) → i < length es → e ≡ get_or es i d → AreRows 0 (take i es) rows
    → mid ≡ old ++ rows → ((strip : List Shape) × (new ≡ mid ++ entry_row i e strip))
    → (all : List ℕ) × AreRows 0 (take (i + 1) es) all × (new ≡ old ++ all)
next_row es i old mid new rows e d within is are before pushed =
    let row = entry_row i e pushed.0 in (
      rows ++ row,
      subst (λ (l : List Entry). AreRows 0 l (rows ++ row)) (one_more es i e d within is)
          (rows-more 0 i (take i es) e rows pushed.0 (omega (arith, length-take-le i es (omega (arith, within)))) are),
      on old mid new rows row before pushed.1,
    )

-- ---- rows of JSON

pub same_rows : (z : TimeZone) (plans : List Plan) (start first count days : ℕ) (text counts : List ℕ) → text ≡ day_objects start counts
    → counts ≡ totals (counts_of z start count) count plans → start ≡ first → count ≡ days
    → text ≡ day_objects first (totals (counts_of z first days) days plans)
same_rows z plans start first count days text counts rows are e g =
    rows
    ∙ (ap (day_objects start) are
    ∙ (ap (λ s. day_objects s (totals (counts_of z s count) count plans)) e ∙ ap (λ d. day_objects first (totals (counts_of z first d) d plans)) g))
