-- Words of a text, and pieces of a word, one after another.
use Rattle.std.proofs.Common.{◌≡◌, ◌+◌, ◌-◌, ◌<◌, ◌&&◌, ℕ, zero, suc, add-one, subst, inl, inr, Bool, true, false, List, [], ◌∷◌, refl, sym, arith}
use Rattle.std.specs.List.{list_all, list_any}
use Rattle.std.proofs.lemmas.Bool.{cases_lt}
use Rattle.cron_crontab.specs.Fields.{least}
use Rattle.cron_crontab.specs.declared.field.Field.{Field}
use Rattle.cron_tab_warnings.specs.Warnings.{lacks, some_lacks}
use Rattle.cron_tab_warnings.specs.Written.{names, names_first, word_in}

pub word-next : (ws : List (List ℕ)) (word : List ℕ) (more : List (List ℕ)) (n i : ℕ) → i < n → ws ≡ word ∷ more
    → word_in more (n - (i + 1)) ≡ word_in ws (n - i)
word-next ws word more n i some cut = let less : n - i ≡ suc (n - (i + 1)) = omega arith in rw (cut, less) refl

pub no-word : (ws : List (List ℕ)) (n : ℕ) → ws ≡ [] → word_in ws n ≡ []
no-word ws n none = rw none refl

pub first-word : (ws : List (List ℕ)) (word : List ℕ) (more : List (List ℕ)) (n : ℕ) → ws ≡ word ∷ more → word_in ws (n - n) ≡ word
first-word ws word more n cut = let none : n - n ≡ 0 = omega arith in rw (cut, none) refl

module _ (test : List ℕ → Bool) where
  pub any-here : (ps : List (List ℕ)) (p : List ℕ) (more : List (List ℕ)) → ps ≡ p ∷ more → test p ≡ true → true ≡ list_any test ps
  any-here ps p more cut here = rw (cut, here) refl

  pub any-more : (ps : List (List ℕ)) (p : List ℕ) (more : List (List ℕ)) → ps ≡ p ∷ more → test p ≡ false → list_any test more ≡ list_any test ps
  any-more ps p more cut none = rw (cut, none) refl

  pub all-more : (ps : List (List ℕ)) (p : List ℕ) (more : List (List ℕ)) → ps ≡ p ∷ more → test p ≡ true → list_all test more ≡ list_all test ps
  all-more ps p more cut here = rw (cut, here) refl

  pub all-none : (ps : List (List ℕ)) (p : List ℕ) (more : List (List ℕ)) → ps ≡ p ∷ more → test p ≡ false → false ≡ list_all test ps
  all-none ps p more cut none = rw (cut, none) refl

-- a number that a field lacks is one that it doesn't name
and-false : (b c : Bool) → c ≡ false → (b && c) ≡ false
and-false true c none = none
and-false false c none = refl

pub lacks-one : (f : Field) (word : List ℕ) (i n : ℕ) → i < n → names f word (least f + i) ≡ false → names_first f word n ≡ false
lacks-one f word i zero some none = absurd (omega arith)
lacks-one f word i (suc n) some none =
    elim (cases_lt i n) [
      | inl before ↦ rw (lacks-one f word i n before none) refl
      | inr last ↦ let here : i ≡ n = omega arith in and-false (names_first f word n) (names f word (least f + n)) (rw (sym here) none)
    ]

-- the months that lack a day, one more
pub none-lacks : (months : List ℕ) (day i : ℕ) → some_lacks months day i ≡ false → lacks months (i + 1) day ≡ false → some_lacks months day (i + 1) ≡ false
none-lacks months day i before here =
    let next : some_lacks months day (suc i) ≡ false = rw (before, here) refl in
    subst (λ (k : ℕ). some_lacks months day k ≡ false) (sym (add-one i)) next
