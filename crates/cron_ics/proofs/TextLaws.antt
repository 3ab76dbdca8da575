-- What is escaped reads back.
use Rattle.std.proofs.Common.{◌≡◌, ℕ, false, ◌==◌, List, [], ◌∷◌, ◌++◌, refl, ap, ◌∙◌, inl, inr}
use Rattle.std.proofs.lemmas.Bool.{cases_Bool, eqb-true}
use Rattle.cron_ics.specs.Laws.{EscapedReadsBack}
use Rattle.cron_ics.specs.Texts.{escaped, escaped_byte, unescaped}

plain_byte : (b : ℕ) (l : List ℕ) → (b == 92) ≡ false → unescaped (b ∷ l) ≡ b ∷ unescaped l
plain_byte b [] e = refl
plain_byte b (c ∷ l) e = rw e refl

one_back : (b : ℕ) (l : List ℕ) → unescaped (escaped_byte b ++ l) ≡ b ∷ unescaped l
one_back b l =
    elim (cases_Bool (b == 10)) [
      | inl it ↦ rw (eqb-true b 10 it) refl
      | inr feed ↦ elim (cases_Bool (b == 92)) [
        | inl it ↦ rw (eqb-true b 92 it) refl
        | inr slash ↦ elim (cases_Bool (b == 59)) [
          | inl it ↦ rw (eqb-true b 59 it) refl
          | inr semicolon ↦ elim (cases_Bool (b == 44)) [
            | inl it ↦ rw (eqb-true b 44 it) refl
            | inr comma ↦ rw (feed, slash, semicolon, comma) (plain_byte b l slash)
          ]
        ]
      ]
    ]

pub reads_back : EscapedReadsBack
reads_back [] = refl
reads_back (b ∷ text) = one_back b (escaped text) ∙ ap (λ l. b ∷ l) (reads_back text)
