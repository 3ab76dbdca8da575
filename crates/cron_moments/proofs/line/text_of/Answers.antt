use Rattle.std.proofs.Common.{◌≡◌, List, ℕ, ℤ, [], ◌∷◌, ◌++◌, append_assoc, ap, ◌∙◌}
use Rattle.jiff_core.specs.declared.civil.date.Date.{Date}
use Rattle.jiff_core.specs.declared.civil.time.Time.{Time}
use Rattle.jiff_core.specs.declared.civil.datetime.DateTime.{DateTime}
use Rattle.jiff_core.specs.declared.Offset.{Offset}
use Rattle.cron_moments.specs.Civil.{civil}
use Rattle.cron_moments.specs.MomentText.{moment_text, date_text, time_text, offset_text}
use Rattle.cron_moments.specs.Readings.{Reading}
use Rattle.cron_moments.proofs.line.text_of.Goals as goal

regroup : (a b c : List ℕ) → (((([] ++ a) ++ 32 ∷ []) ++ b) ++ 32 ∷ []) ++ c ≡ a ++ (32 ∷ [] ++ (b ++ (32 ∷ [] ++ c)))
regroup a b c = simp append_assoc

-- the text, from what each step appends
text_is : (r : Reading) (shown : DateTime) (d : Date) (t : Time) (o : ℤ) (l0 l1 l2 l3 l4 l5 : List ℕ) → shown ≡ civil r.second → d ≡ shown.date
    → t ≡ shown.time → o ≡ r.offset.seconds
    → l0 ≡ [] → l1 ≡ l0 ++ date_text d → l2 ≡ l1 ++ 32 ∷ [] → l3 ≡ l2 ++ time_text t → l4 ≡ l3 ++ 32 ∷ [] → l5 ≡ l4 ++ offset_text o → l5 ≡ moment_text r
unfolding moment_text
text_is r shown d t o l0 l1 l2 l3 l4 l5 s p q w e0 e1 e2 e3 e4 e5 =
    let date : d ≡ (civil r.second).date = p ∙ ap (λ (x : DateTime). x.date) s in
    let time : t ≡ (civil r.second).time = q ∙ ap (λ (x : DateTime). x.time) s in
    let f1 : l1 ≡ [] ++ date_text (civil r.second).date = e1 ∙ (ap (λ (l : List ℕ). l ++ date_text d) e0 ∙ ap (λ (x : Date). [] ++ date_text x) date) in
    let f2 : l2 ≡ ([] ++ date_text (civil r.second).date) ++ 32 ∷ [] = e2 ∙ ap (λ (l : List ℕ). l ++ 32 ∷ []) f1 in
    let f3 : l3 ≡ (([] ++ date_text (civil r.second).date) ++ 32 ∷ []) ++ time_text (civil r.second).time = e3
    ∙ (ap (λ (l : List ℕ). l ++ time_text t) f2 ∙ ap (λ (x : Time). (([] ++ date_text (civil r.second).date) ++ 32 ∷ []) ++ time_text x) time) in
    let f4 : l4 ≡ ((([] ++ date_text (civil r.second).date) ++ 32 ∷ []) ++ time_text (civil r.second).time) ++ 32 ∷ [] = e4
    ∙ ap (λ (l : List ℕ). l ++ 32 ∷ []) f3 in
    e5 ∙ (ap (λ (l : List ℕ). l ++ offset_text o) f4
    ∙ (ap (λ (x : ℤ). (((([] ++ date_text (civil r.second).date) ++ 32 ∷ []) ++ time_text (civil r.second).time) ++ 32 ∷ []) ++ offset_text x) w
    ∙ regroup (date_text (civil r.second).date) (time_text (civil r.second).time) (offset_text r.offset.seconds)))

pub returns-clause-text : goal.returns-clause-text
returns-clause-text c =
    text_is c.args.moment.now c.datetime-shown.result c.date.result c.time.result c.offset.result.seconds _ _ _ _ _ _ c.datetime-shown.ensures
    c.date.ensures c.time.ensures (ap (λ (o : Offset). o.seconds) c.offset.ensures) c.new-line.ensures c.push_date.ensures.items c.push.ensures.items
    c.push_time.ensures.items c.push-2.ensures.items c.push_offset.ensures.items
