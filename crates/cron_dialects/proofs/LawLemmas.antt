-- What means something to both is a nickname, and means the same to both.
use Rattle.std.proofs.Common.{◌≡◌, ℕ, Bool, true, false, if◌then◌else◌, inl, inr, List, [], ◌∷◌, Option, Some, None, Ok, codes, refl, sym, ap, ◌∙◌, subst, arith}
use Rattle.std.specs.List.{AllByRecursion}
use Rattle.std.specs.Str.{bytes_eq}
use Rattle.std.proofs.lemmas.Slice.Eq.{bytes_eq-Decides}
use Rattle.cron_units.specs.Units.{whole}
use Rattle.cron_units.specs.Sets.{Sets}
use Rattle.cron_text.specs.Meaning.{IsLonghand, IsShorthand, daily, hourly, meaning_in, monthly, shorthand_of, shorthands, trimmed_end, trimmed_front, weekly, yearly}
use Rattle.cron_text.specs.Tokens.{symbol_of, tokens}
use Rattle.cron_crontab.specs.Crontab as tabs
use Rattle.cron_crontab.specs.Crontab.{Meaning, begins_with_at, expanded, five_of, further_word, is_reboot, last_word, meant_by, nickname_of, nicknames, on_one_line, outcome_of, reboot, schedules, schedules_of, text_in, unknown, words}
use Rattle.cron_crontab.specs.Items.{and_then}
use Rattle.cron_dialects.specs.Dialects.{MeaningsAgree, NicknamesAloneAreBoth, NicknamesAreBoth}
use Rattle.cron_dialects.proofs.Alone.{IsSolid, trimmed_word, word_trimmed}
use Rattle.cron_dialects.proofs.Counts.{AreTokens, link, no_longhand, one}
use Rattle.cron_dialects.proofs.Crontabs.{both_read, five_words}
use Rattle.cron_dialects.proofs.Cuts.{totals, words_measure}

-- ---- the seven words

-- a word is a nickname, and means the same sets to both
record IsKnown (nick : List ℕ) (s : Sets) : Type 0 where
  expression : List ℕ
  stands : text_in nicknames nick ≡ Some expression
  tab : outcome_of (nick ∷ []) ≡ Ok (schedules (s ∷ []))
  own : shorthand_of nick ≡ Some s
  front : List ℕ
  is : nick ≡ 64 ∷ front
  solid : IsSolid nick
  two : AreTokens 2 (tokens nick)

yearly_known : IsKnown (codes "@yearly") yearly
unfolding whole tokens symbol_of
yearly_known = record {
  expression = codes "0 0 1 1 *";
  stands = refl;
  tab = refl;
  own = refl;
  front = codes "yearly";
  is = refl;
  solid = refl;
  two = record { count = refl };
}

annually_known : IsKnown (codes "@annually") yearly
unfolding whole tokens symbol_of
annually_known = record {
  expression = codes "0 0 1 1 *";
  stands = refl;
  tab = refl;
  own = refl;
  front = codes "annually";
  is = refl;
  solid = refl;
  two = record { count = refl };
}

monthly_known : IsKnown (codes "@monthly") monthly
unfolding whole tokens symbol_of
monthly_known = record {
  expression = codes "0 0 1 * *";
  stands = refl;
  tab = refl;
  own = refl;
  front = codes "monthly";
  is = refl;
  solid = refl;
  two = record { count = refl };
}

weekly_known : IsKnown (codes "@weekly") weekly
unfolding whole tokens symbol_of
weekly_known = record {
  expression = codes "0 0 * * 0";
  stands = refl;
  tab = refl;
  own = refl;
  front = codes "weekly";
  is = refl;
  solid = refl;
  two = record { count = refl };
}

daily_known : IsKnown (codes "@daily") daily
unfolding whole tokens symbol_of
daily_known = record {
  expression = codes "0 0 * * *";
  stands = refl;
  tab = refl;
  own = refl;
  front = codes "daily";
  is = refl;
  solid = refl;
  two = record { count = refl };
}

midnight_known : IsKnown (codes "@midnight") daily
unfolding whole tokens symbol_of
midnight_known = record {
  expression = codes "0 0 * * *";
  stands = refl;
  tab = refl;
  own = refl;
  front = codes "midnight";
  is = refl;
  solid = refl;
  two = record { count = refl };
}

hourly_known : IsKnown (codes "@hourly") hourly
unfolding whole tokens symbol_of
hourly_known = record {
  expression = codes "0 * * * *";
  stands = refl;
  tab = refl;
  own = refl;
  front = codes "hourly";
  is = refl;
  solid = refl;
  two = record { count = refl };
}

reboot_two : AreTokens 2 (tokens (codes "@reboot"))
unfolding tokens symbol_of
reboot_two = record { count = refl }

own_known : (es : List (List ℕ × Sets)) (nick : List ℕ) (s : Sets) → AllByRecursion (λ e. IsKnown e.0 e.1) es → meaning_in es nick ≡ Some s → IsKnown nick s
own_known [] nick s all h = absurd (cc)
own_known (e ∷ es) nick s all h = by_test (bytes_eq nick e.0) refl h (λ k. own_known es nick s all.1 k)
  where
    by_test : (b : Bool) → bytes_eq nick e.0 ≡ b → (if b then Some e.1 else meaning_in es nick) ≡ Some s → (meaning_in es nick ≡ Some s → IsKnown nick s) → IsKnown nick s
    by_test true same k more =
        let sets : e.1 ≡ s = cc in
        subst (λ v. IsKnown v s) (sym ((bytes_eq-Decides nick e.0).0 same)) (subst (λ t. IsKnown e.0 t) sets all.0)
    by_test false same k more = more k

-- the sets of a nickname
record HasSets (nick : List ℕ) : Type 0 where
  sets : Sets
  known : IsKnown nick sets

tab_known : (es : List (List ℕ × List ℕ)) (nick expression : List ℕ) → AllByRecursion (λ e. HasSets e.0) es → text_in es nick ≡ Some expression → HasSets nick
tab_known [] nick expression all h = absurd (cc)
tab_known (e ∷ es) nick expression all h = by_test (bytes_eq nick e.0) refl h (λ k. tab_known es nick expression all.1 k)
  where
    by_test : (b : Bool) → bytes_eq nick e.0 ≡ b → (if b then Some e.1 else text_in es nick) ≡ Some expression
        → (text_in es nick ≡ Some expression → HasSets nick) → HasSets nick
    by_test true same k more = subst HasSets (sym ((bytes_eq-Decides nick e.0).0 same)) all.0
    by_test false same k more = more k

own_nickname : (nick : List ℕ) (s : Sets) → shorthand_of nick ≡ Some s → IsKnown nick s
own_nickname nick s h =
    own_known shorthands nick s (
      yearly_known,
      (monthly_known, (weekly_known, (daily_known, (hourly_known, (annually_known, (midnight_known, tt)))))),
    ) h

tab_nickname : (nick expression : List ℕ) → text_in nicknames nick ≡ Some expression → HasSets nick
tab_nickname nick expression h =
    tab_known nicknames nick expression (
      record { sets = yearly; known = yearly_known },
      (
        record { sets = yearly; known = annually_known },
        (
          record { sets = monthly; known = monthly_known },
          (
            record { sets = weekly; known = weekly_known },
            (
              record { sets = daily; known = daily_known },
              (record { sets = daily; known = midnight_known }, (record { sets = hourly; known = hourly_known }, tt)),
            ),
          ),
        ),
      ),
    ) h

-- ---- no crontab's text is six fields, or seven

lone_count : (text nick : List ℕ) (fields : ℕ) → words text ≡ nick ∷ [] → AreTokens fields (tokens nick) → AreTokens fields (tokens text)
lone_count text nick fields is are = record {
  count = omega (
    arith,
    words_measure one text,
    words_measure link text,
    ap (totals one 0) is,
    ap (totals link 0) is,
    are.count,
  );
}

five_count : (text : List ℕ) (read : tabs.Five) → five_of (words text) ≡ Ok read → AreTokens 5 (tokens text)
five_count text read h =
    let k = five_words (words text) read h in
    record {
      count = omega (
        arith,
        words_measure one text,
        words_measure link text,
        ap (totals one 0) k.is,
        ap (totals link 0) k.is,
        k.ones.0.count,
        k.ones.1.0.count,
        k.ones.1.1.0.count,
        k.ones.1.1.1.0.count,
        k.ones.1.1.1.1.0.count,
      );
    }

nickname_two : (nick : List ℕ) (meaning : Meaning) → nickname_of nick ≡ Ok meaning → AreTokens 2 (tokens nick)
nickname_two nick meaning h = by_test (is_reboot nick) (text_in nicknames nick) refl refl h
  where
    by_test : (b : Bool) (o : Option (List ℕ)) → is_reboot nick ≡ b → text_in nicknames nick ≡ o → (if b then Ok reboot else expanded nick o) ≡ Ok meaning
        → AreTokens 2 (tokens nick)
    by_test true o is found k = subst (λ v. AreTokens 2 (tokens v)) (sym ((bytes_eq-Decides nick (codes "@reboot")).0 is)) reboot_two
    by_test false None is found k = absurd (cc)
    by_test false (Some expression) is found k = (tab_nickname nick expression found).known.two

last_alone : (more : List (List ℕ)) (meaning m : Meaning) → last_word more meaning ≡ Ok m → more ≡ []
last_alone [] meaning m h = refl
last_alone (w ∷ more) meaning m h = absurd (cc)

-- what a text of one line means its words mean
record IsOneLine (text : List ℕ) (m : Meaning) : Type 0 where
  alone : further_word text ≡ None
  is : outcome_of (words text) ≡ Ok m

one_line : (text : List ℕ) (m : Meaning) → tabs.Means text m → IsOneLine text m
one_line text m h = by_word (further_word text) refl h
  where
    by_word : (o : Option (List ℕ)) → further_word text ≡ o → on_one_line o (outcome_of (words text)) ≡ Ok m → IsOneLine text m
    by_word None alone is = record { alone = alone; is = is }
    by_word (Some word) alone is = absurd (cc)

no_tab : (text : List ℕ) (s : Sets) (m : Meaning) → IsLonghand text s → tabs.Means text m → ⊥
no_tab text s m long h = by_words (words text) refl (one_line text m h).is
  where
    by_first : (nick : List ℕ) (more : List (List ℕ)) (b : Bool) → words text ≡ nick ∷ more
        → (if b then and_then (nickname_of nick) (last_word more) else meant_by (nick ∷ more)) ≡ Ok m → ⊥
    by_first nick more true is k =
        let r = both_read (nickname_of nick) (last_word more) m k in
        let none = last_alone more r.found m r.then_is in
        no_longhand text s 2 (lone_count text nick 2 (is ∙ ap (λ x. nick ∷ x) none) (nickname_two nick r.found r.is)) (λ e. omega (arith, e)) (λ e. omega (arith, e)) long
    by_first nick more false is k =
        let r = both_read (five_of (nick ∷ more)) (λ five. Ok (schedules (schedules_of five))) m k in
        no_longhand text s 5 (five_count text r.found (ap five_of is ∙ r.is)) (λ e. omega (arith, e)) (λ e. omega (arith, e)) long

    by_words : (ws : List (List ℕ)) → words text ≡ ws → outcome_of ws ≡ Ok m → ⊥
    by_words [] is k = cc
    by_words (nick ∷ more) is k = by_first nick more (begins_with_at nick) is k

-- ---- the laws

-- a shorthand is a nickname, and the text's only word
record IsKnownText (text : List ℕ) (s : Sets) : Type 0 where
  nick : List ℕ
  is : words text ≡ nick ∷ []
  known : IsKnown nick s

shorthand_known : (text : List ℕ) (s : Sets) → IsShorthand text s → IsKnownText text s
shorthand_known text s h =
    let nick = trimmed_end (trimmed_front text) in
    let k = own_nickname nick s h in
    record {
      nick = nick;
      is = word_trimmed text 64 k.front k.is (subst IsSolid k.is k.solid) ∙ ap (λ v. v ∷ []) (sym k.is);
      known = k;
    }

pub nicknames_alone : NicknamesAloneAreBoth
nicknames_alone text s m (inl long) tab = absurd (no_tab text s m long tab)
nicknames_alone text s m (inr short) tab = let k = shorthand_known text s short in (k.nick, k.known.expression, k.is, k.known.stands, (one_line text m tab).alone)

pub meanings_agree : MeaningsAgree
meanings_agree text s m (inl long) tab = absurd (no_tab text s m long tab)
meanings_agree text s m (inr short) tab =
    let k = shorthand_known text s short in
    let same : Ok m ≡ Ok (schedules (s ∷ [])) = sym (one_line text m tab).is ∙ (ap outcome_of k.is ∙ k.known.tab) in
    cc

pub nicknames_both : NicknamesAreBoth
nicknames_both text nickname =
    let k = tab_nickname nickname.0 nickname.1 nickname.3 in (
      k.sets,
      inr (ap shorthand_of (trimmed_word text nickname.0 nickname.2) ∙ k.known.own),
      ap (λ o. on_one_line o (outcome_of (words text))) nickname.4 ∙ (ap outcome_of nickname.2 ∙ k.known.tab),
    )
