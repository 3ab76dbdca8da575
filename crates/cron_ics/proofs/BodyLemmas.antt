-- The events of one entry more.
use Rattle.std.proofs.Common.{◌≡◌, ℕ, suc, ◌+◌, ◌<◌, ◌≤◌, List, [], ◌∷◌, ◌++◌, get_or, length, refl, sym, subst, take, drop, drop-cons, take-suc, ap, ◌∙◌, append_assoc, append-nil, arith}
use Rattle.std.proofs.lemmas.Option.{slice_get_read}
use lib.ListN.{drop_of_length-le}
use Rattle.cron_ics.specs.Calendars.{AreEvents, IsBody, IsRefusal, total, wanted_fires}
use Rattle.cron_ics.specs.declared.calendar.Wanted.{Wanted}
use Rattle.cron_ics.specs.declared.entry.Entry.{Entry}
use Rattle.cron_ics.specs.declared.error.IcsError.{IcsError}
use Rattle.cron_ics.specs.declared.error.IcsError.TheVariants.{NoEvents, OutOfMemory, TooMany}

front : (es : List Entry) (i : ℕ) (e : Entry) → i < length es → e ≡ get_or es i e → take i es ++ e ∷ [] ≡ take (i + 1) es
front es i e within is =
    let on : i + 1 ≡ suc i = omega arith in
    ap (λ x. take i es ++ x ∷ []) is ∙ (sym (take-suc es i e within) ∙ ap (λ n. take n es) (sym on))

back : (es : List Entry) (i : ℕ) (e : Entry) → i < length es → e ≡ get_or es i e → e ∷ drop (i + 1) es ≡ drop i es
back es i e within is =
    let on : i + 1 ≡ suc i = omega arith in
    ap (λ x. x ∷ drop (i + 1) es) is ∙ (ap (λ n. get_or es i e ∷ drop n es) on ∙ sym (drop-cons es i e within))

-- what comes behind the entries before a place makes the whole
abbrev pub Makes : Wanted → List Entry → ℕ → List ℕ → Type 0
Makes w es i pushed = (rest : List ℕ) → IsBody w (take i es) (drop i es) rest → IsBody w [] es (pushed ++ rest)

pub one_more : (w : Wanted) (es : List Entry) (i : ℕ) (e : Entry) (pushed own : List ℕ) → i < length es → e ≡ get_or es i e
    → AreEvents w (take i es) e own → Makes w es i pushed → Makes w es (i + 1) (pushed ++ own)
one_more w es i e pushed own within is events makes rest body =
    subst (IsBody w [] es) (sym (append_assoc pushed own rest))
    (makes (own ++ rest) (subst (λ l. IsBody w (take i es) l (own ++ rest)) (back es i e within is)
    (own, rest, events, refl, subst (λ l. IsBody w l (drop (i + 1) es) rest) (sym (front es i e within is)) body)))

pub more_fires : (w : Wanted) (es : List Entry) (i : ℕ) (e : Entry) → i < length es → e ≡ get_or es i e
    → total w (drop i es) ≡ length (wanted_fires w e) + total w (drop (i + 1) es)
more_fires w es i e within is = ap (total w) (sym (back es i e within is))

pub no_more : (w : Wanted) (es : List Entry) (i : ℕ) (pushed : List ℕ) → length es ≤ i → Makes w es i pushed → IsBody w [] es pushed
no_more w es i pushed past makes =
    let none = drop_of_length-le es {i = i} past in
    subst (IsBody w [] es) (append-nil pushed) (makes [] (subst (λ l. IsBody w (take i es) l []) (sym none) refl))

-- what one entry is refused for is what all are refused for
pub refused : (w : Wanted) (es : List Entry) (i count room : ℕ) (e : Entry) (why : IcsError) → i < length es → e ≡ get_or es i e
    → total w es ≡ count + total w (drop i es) → count ≤ w.most → room + count ≡ w.most
    → (why ≡ TooMany → room < length (wanted_fires w e))
    → (why ≡ NoEvents → ⊥) → IsRefusal w es why
refused w es i count room e NoEvents within is all few left many some = absurd (some refl)
refused w es i count room e TooMany within is all few left many some =
    omega (arith, more_fires w es i e within is, all, few, left, many refl)
refused w es i count room e OutOfMemory within is all few left many some = tt
