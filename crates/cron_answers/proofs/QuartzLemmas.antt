-- Fires that are none of Quartz, one after another.
use Rattle.std.proofs.Common.{◌≡◌, ℕ, Option, List, [], ◌∷◌, Bool, true, false, ap, ◌∙◌}
use Rattle.std.specs.Prelude.{ℤ, ◌||◌, not}
use Rattle.jiff_tz.specs.declared.timezone.TimeZone.{TimeZone}
use Rattle.cron_answers.specs.Fires.{first_of, is_none_wanted, one_less}
use Rattle.cron_answers.specs.QuartzNotes.{has_other, is_quartz_fire}
use Rattle.cron_answers.proofs.RowLemmas.{first_more, first_of_none, none_wanted}

-- the first fire that is left, and the others
one_looked : {A : Type 0} (civil : A → ℕ) (second : A → ℤ) (z : TimeZone) (most : Option ℕ) (fires rest : List A) (fire : A)
    → is_none_wanted most ≡ false → fires ≡ fire ∷ rest
    → has_other civil second z (first_of most fires)
    ≡ (not (is_quartz_fire z (civil fire) (second fire)) || has_other civil second z (first_of (one_less most) rest))
one_looked civil second z most fires rest fire wanted cut =
    ap (has_other civil second z) (ap (first_of most) cut ∙ first_more most fire rest wanted)

-- Quartz fires then as well
pub one_alike : {A : Type 0} (civil : A → ℕ) (second : A → ℤ) (z : TimeZone) (most : Option ℕ) (fires rest : List A) (fire : A)
    → is_none_wanted most ≡ false → fires ≡ fire ∷ rest → is_quartz_fire z (civil fire) (second fire) ≡ true
    → has_other civil second z (first_of most fires) ≡ has_other civil second z (first_of (one_less most) rest)
one_alike civil second z most fires rest fire wanted cut alike =
    one_looked civil second z most fires rest fire wanted cut
    ∙ ap (λ (b : Bool). not b || has_other civil second z (first_of (one_less most) rest)) alike

-- it doesn't
pub one_other : {A : Type 0} (civil : A → ℕ) (second : A → ℤ) (z : TimeZone) (most : Option ℕ) (fires rest : List A) (fire : A)
    → is_none_wanted most ≡ false → fires ≡ fire ∷ rest → is_quartz_fire z (civil fire) (second fire) ≡ false
    → has_other civil second z (first_of most fires) ≡ true
one_other civil second z most fires rest fire wanted cut other =
    one_looked civil second z most fires rest fire wanted cut
    ∙ ap (λ (b : Bool). not b || has_other civil second z (first_of (one_less most) rest)) other

pub none_looked : {A : Type 0} (civil : A → ℕ) (second : A → ℤ) (z : TimeZone) (most : Option ℕ) (fires : List A) → fires ≡ []
    → has_other civil second z (first_of most fires) ≡ false
none_looked civil second z most fires none = ap (has_other civil second z) (ap (first_of most) none ∙ first_of_none most)

pub no_more_looked : {A : Type 0} (civil : A → ℕ) (second : A → ℤ) (z : TimeZone) (most : Option ℕ) (fires : List A) → is_none_wanted most ≡ true
    → has_other civil second z (first_of most fires) ≡ false
no_more_looked civil second z most fires done = ap (has_other civil second z) (none_wanted most fires done)
