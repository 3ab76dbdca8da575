-- UIDs tell spans apart.
use Rattle.std.proofs.Common.{◌≡◌, ℕ, suc, ◌<◌, ◌^◌, ℤ, pos, negsuc, List, ◌∷◌, ◌++◌, codes, decimal, drop, refl, sym, ap, ◌∙◌, append_assoc, take, arith}
use Rattle.std.proofs.lemmas.Fmt.{decimal_is_IsNumeral, signed_decimal_injective}
use Rattle.std.specs.Fmt.{signed_decimal}
use lib.Signed.{mag}
use Rattle.sha2.specs.Sha256.{sha256}
use Rattle.cron_ics.proofs.UidLaws.{HasNo, encoded, no_at, small, up_to_first, up_to_minus}
use Rattle.cron_ics.specs.Events.{digest_text}
use Rattle.cron_ics.specs.Spans.{UidsTellSpansApart, span_uid}

signed_no_at : (z : ℤ) → mag z < 2 ^ 63 → HasNo 64 (signed_decimal z)
signed_no_at (pos n) h = no_at (decimal n) (decimal_is_IsNumeral n (omega (arith, h))).0.1
signed_no_at (negsuc n) h = (refl, no_at (decimal (suc n)) (decimal_is_IsNumeral (suc n) (omega (arith, h))).0.1)

-- the parts of a line, the first outermost
unfoldable pub parted : List ℕ → ℤ → ℤ → List ℕ → List ℕ
parted digest from until domain = digest ++ 45 ∷ (signed_decimal from ++ 45 ∷ (signed_decimal until ++ 64 ∷ domain))

pub uid-parted : (digest : List ℕ) (from until : ℤ) (domain : List ℕ) → span_uid digest from until domain ≡ codes "UID:" ++ parted digest from until domain
unfolding parted
uid-parted digest from until domain = simp append_assoc refl

pub tell_apart : UidsTellSpansApart
unfolding parted
tell_apart text other from first until last domain place early late low high same =
    let whole = ap (drop 4) (sym (uid-parted (digest_text text) from until domain) ∙ (same ∙ uid-parted (digest_text other) first last place)) in
    let digests = up_to_first 45 (digest_text text) (digest_text other) _ _ (encoded (take 16 (sha256 text))) (encoded (take 16 (sha256 other))) whole in
    let starts = up_to_minus from first _ _ (small from early) (small first late) digests.1 in
    let ends = up_to_first 64 (signed_decimal until) (signed_decimal last) domain place (signed_no_at until (small until low))
    (signed_no_at last (small last high)) starts.1 in
    record {
      same_digest = digests.0;
      same_from = signed_decimal_injective from first (small from early) (small first late) starts.0;
      same_until = signed_decimal_injective until last (small until low) (small last high) ends.0;
      same_domain = ends.1;
    }
