-- Texts that are escaped.
use Rattle.std.proofs.Common.{ℕ, ◌==◌, ◌||◌, List, [], ◌∷◌, ◌++◌, refl, inl, inr}
use Rattle.std.proofs.lemmas.Bool.{cases_Bool, or_from}
use Rattle.cron_calendar.specs.Html.{escaped, escaped_byte}
use Rattle.cron_calendar.specs.HtmlLaws.{HasNoMarkup, TextsHoldNoMarkup}

joined : (xs ys : List ℕ) → HasNoMarkup xs → HasNoMarkup ys → HasNoMarkup (xs ++ ys)
joined [] ys p q = q
joined (x ∷ xs) ys p q = (p.0, joined xs ys p.1 q)

of_byte : (b : ℕ) → HasNoMarkup (escaped_byte b)
of_byte b = elim (cases_Bool (b == 60)) [
  | inl less ↦ rw less (refl, (refl, (refl, (refl, tt))))
  | inr p ↦ elim (cases_Bool (b == 62)) [
    | inl greater ↦ rw (p, greater) (refl, (refl, (refl, (refl, tt))))
    | inr q ↦ elim (cases_Bool (b == 38)) [
      | inl and ↦ rw (p, q, and) (refl, (refl, (refl, (refl, (refl, tt)))))
      | inr a ↦ elim (cases_Bool (b == 34)) [
        | inl quote ↦ rw (p, q, a, quote) (refl, (refl, (refl, (refl, (refl, (refl, tt))))))
        | inr k ↦ elim (cases_Bool (b == 39)) [
          | inl single ↦ rw (p, q, a, k, single) (refl, (refl, (refl, (refl, (refl, tt)))))
          | inr l ↦ rw (p, q, a, k, l) (or_from (b == 60) (b == 62 || (b == 34 || b == 39)) p (or_from (b == 62) (b == 34 || b == 39) q (or_from (b == 34) (b == 39) k l)), tt)
        ]
      ]
    ]
  ]
]

pub no_markup : TextsHoldNoMarkup
no_markup [] = tt
no_markup (b ∷ text) = joined (escaped_byte b) (escaped text) (of_byte b) (no_markup text)
