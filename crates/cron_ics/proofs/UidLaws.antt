-- UIDs tell events apart.
use Rattle.std.proofs.Common.{◌≡◌, ℕ, zero, suc, ◌/◌, ◌%◌, ◌<◌, ◌^◌, ℤ, pos, negsuc, nat_abs, nat_eq, false, List, [], ◌∷◌, ◌++◌, codes, decimal, drop, get_or, length, refl, sym, ap, ap₂, ◌∙◌, append_assoc, subst, take, arith}
use Rattle.std.proofs.lemmas.Bool.{eq-eqb, false≢true, ne_eqb}
use Rattle.std.proofs.lemmas.Fmt.{decimal_injective, decimal_is_IsNumeral, signed_decimal_injective}
use Rattle.std.specs.Char.{digit_value}
use Rattle.std.specs.Fmt.{signed_decimal}
use Rattle.std.specs.Prelude.{slice_index}
use Rattle.std.specs.Str.Parse.{AllDigits}
use lib.Signed.{mag}
use Rattle.hex.specs.Hex.{encode_with, lower_digits}
use Rattle.sha2.specs.Sha256.{sha256}
use Rattle.cron_ics.specs.Events.{digest_text, uid_line}
use Rattle.cron_ics.specs.Laws.{UidsTellEventsApart}
use Rattle.cron_ics.specs.declared.fires.Fire.{Fire}

-- ---- texts up to the first byte of a kind

-- no byte of the text is this one
abbrev pub HasNo : ℕ → List ℕ → Type 0
HasNo c [] = Unit {0}
HasNo c (b ∷ bs) = (nat_eq b c ≡ false) × HasNo c bs

isnt_it : (c : ℕ) → nat_eq c c ≡ false → ⊥
isnt_it c h = false≢true (sym h ∙ eq-eqb c c refl)

-- two texts that go on with such a byte
pub up_to_first : (c : ℕ) (d e x y : List ℕ) → HasNo c d → HasNo c e → d ++ c ∷ x ≡ e ++ c ∷ y → (d ≡ e) × (x ≡ y)
up_to_first c [] [] x y p q same = (refl, ap (drop 1) same)
up_to_first c [] (b ∷ e) x y p q same = absurd (isnt_it c (ap (λ k. nat_eq k c) (ap (λ l. get_or l 0 0) same) ∙ q.0))
up_to_first c (a ∷ d) [] x y p q same = absurd (isnt_it c (ap (λ k. nat_eq k c) (sym (ap (λ l. get_or l 0 0) same)) ∙ p.0))
up_to_first c (a ∷ d) (b ∷ e) x y p q same =
    let rest = up_to_first c d e x y p.1 q.1 (ap (drop 1) same) in
    (ap₂ (λ (h : ℕ) (t : List ℕ). h ∷ t) (ap (λ l. get_or l 0 0) same) rest.0, rest.1)

no_minus : (d : List ℕ) → AllDigits 10 d → HasNo 45 d
no_minus [] h = tt
no_minus (b ∷ d) h = (ne_eqb b 45 (λ e. let small : digit_value 45 < 10 = subst (λ (k : ℕ). digit_value k < 10) e h.0 in omega (arith, small)), no_minus d h.1)

pub no_at : (d : List ℕ) → AllDigits 10 d → HasNo 64 d
no_at [] h = tt
no_at (b ∷ d) h = (ne_eqb b 64 (λ e. let small : digit_value 64 < 10 = subst (λ (k : ℕ). digit_value k < 10) e h.0 in omega (arith, small)), no_at d h.1)

-- ---- digests

none_at : (xs : List ℕ) (k : ℕ) → HasNo 45 xs → nat_eq (slice_index xs k) 45 ≡ false
none_at [] k h = refl
none_at (x ∷ xs) zero h = h.0
none_at (x ∷ xs) (suc k) h = none_at xs k h.1

plain_digits : HasNo 45 lower_digits
plain_digits = (refl, (refl, (refl, (refl, (refl, (refl, (refl, (refl, (refl, (refl, (refl, (refl, (refl, (refl, (refl, (refl, tt))))))))))))))))

pub encoded : (bytes : List ℕ) → HasNo 45 (encode_with lower_digits bytes)
unfolding encode_with
encoded [] = tt
encoded (b ∷ bs) = (none_at lower_digits (b / 16) plain_digits, (none_at lower_digits (b % 16) plain_digits, encoded bs))

-- ---- numbers

pub small : (z : ℤ) → nat_abs z < 2 ^ 63 → mag z < 2 ^ 63
small (pos n) h = h
small (negsuc n) h = omega (arith, h)

starts_otherwise : (n : ℕ) (x y : List ℕ) → n < 2 ^ 64 → decimal n ++ 45 ∷ x ≡ 45 ∷ y → ⊥
starts_otherwise n x y less same = by_text (decimal n) (decimal_is_IsNumeral n less).0.0 (no_minus (decimal n) (decimal_is_IsNumeral n less).0.1) same where
  by_text : (d : List ℕ) → 0 < length d → HasNo 45 d → d ++ 45 ∷ x ≡ 45 ∷ y → ⊥
  by_text [] some h e = omega arith
  by_text (b ∷ d) some h e = isnt_it 45 (ap (λ k. nat_eq k 45) (sym (ap (λ l. get_or l 0 0) e)) ∙ h.0)

-- a number that may lie below zero, up to the minus after it
pub up_to_minus : (y z : ℤ) (x w : List ℕ) → mag y < 2 ^ 63 → mag z < 2 ^ 63 → signed_decimal y ++ 45 ∷ x ≡ signed_decimal z ++ 45 ∷ w
    → (signed_decimal y ≡ signed_decimal z) × (x ≡ w)
up_to_minus (pos m) (pos n) x w p q same =
    up_to_first 45 (decimal m) (decimal n) x w (no_minus (decimal m) (decimal_is_IsNumeral m (omega (arith, p))).0.1)
    (no_minus (decimal n) (decimal_is_IsNumeral n (omega (arith, q))).0.1) same
up_to_minus (negsuc m) (negsuc n) x w p q same =
    let both = up_to_first 45 (decimal (suc m)) (decimal (suc n)) x w (no_minus (decimal (suc m)) (decimal_is_IsNumeral (suc m) (omega (arith, p))).0.1)
    (no_minus (decimal (suc n)) (decimal_is_IsNumeral (suc n) (omega (arith, q))).0.1) (ap (drop 1) same) in
    (ap (λ d. 45 ∷ d) both.0, both.1)
up_to_minus (pos m) (negsuc n) x w p q same = absurd (starts_otherwise m x (decimal (suc n) ++ 45 ∷ w) (omega (arith, p)) same)
up_to_minus (negsuc m) (pos n) x w p q same = absurd (starts_otherwise n w (decimal (suc m) ++ 45 ∷ x) (omega (arith, q)) (sym same))

-- ---- lines

-- the parts of a line, the first outermost
parted : List ℕ → ℕ → Fire → List ℕ → List ℕ
parted digest copy f domain = digest ++ 45 ∷ (decimal copy ++ 45 ∷ (signed_decimal f.second ++ 45 ∷ (decimal f.civil ++ 64 ∷ domain)))

uid-parted : (digest : List ℕ) (copy : ℕ) (f : Fire) (domain : List ℕ) → uid_line digest copy f domain ≡ codes "UID:" ++ parted digest copy f domain
unfolding parted
uid-parted digest copy f domain = simp append_assoc refl

pub tell_apart : UidsTellEventsApart
unfolding parted
tell_apart text other copy another f g domain place few many early late low high same =
    let whole = ap (drop 4) (sym (uid-parted (digest_text text) copy f domain) ∙ (same ∙ uid-parted (digest_text other) another g place)) in
    let digests = up_to_first 45 (digest_text text) (digest_text other) _ _ (encoded (take 16 (sha256 text))) (encoded (take 16 (sha256 other))) whole in
    let copies = up_to_first 45 (decimal copy) (decimal another) _ _ (no_minus (decimal copy) (decimal_is_IsNumeral copy few).0.1)
    (no_minus (decimal another) (decimal_is_IsNumeral another many).0.1) digests.1 in
    let seconds = up_to_minus f.second g.second _ _ (small f.second early) (small g.second late) copies.1 in
    let civils = up_to_first 64 (decimal f.civil) (decimal g.civil) domain place (no_at (decimal f.civil) (decimal_is_IsNumeral f.civil (omega (arith, low))).0.1)
    (no_at (decimal g.civil) (decimal_is_IsNumeral g.civil (omega (arith, high))).0.1) seconds.1 in
    record {
      same_digest = digests.0;
      same_copy = decimal_injective copy another few many copies.0;
      same_instant = signed_decimal_injective f.second g.second (small f.second early) (small g.second late) seconds.0;
      same_civil = decimal_injective f.civil g.civil (omega (arith, low)) (omega (arith, high)) civils.0;
      same_domain = civils.1;
    }
