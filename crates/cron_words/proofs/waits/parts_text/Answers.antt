use Rattle.std.proofs.Common.{◌∙◌, ◌/◌, ◌%◌, List, ℕ, ap, codes}
use Rattle.cron_words.specs.Waits.{parts_text, with_part}
use Rattle.cron_words.proofs.waits.parts_text.Goals as goal

pub returns : goal.returns
unfolding parts_text
returns c =
    let w = c.args.seconds in
    c.in_ok-push_part-4.ensures ∙ ap (λ (t : List ℕ). with_part t (w % 60) (codes "second"))
    (c.in_ok-push_part-3.ensures ∙ ap (λ (t : List ℕ). with_part t (w / 60 % 60) (codes "minute"))
    (c.in_ok-push_part-2.ensures ∙ ap (λ (t : List ℕ). with_part t (w / 3600 % 24) (codes "hour"))
    (c.in_ok-push_part.ensures ∙ ap (λ (t : List ℕ). with_part t (w / 86400) (codes "day")) c.new-text.ensures.bytes)))
