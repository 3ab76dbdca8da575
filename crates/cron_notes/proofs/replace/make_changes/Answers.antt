use Rattle.std.proofs.Common.{Err, ap, ◌∙◌, inl, inr}
use Rattle.std.proofs.lemmas.Result.{err_from_is_err_and}
use Rattle.cron_notes.specs.Changes.Change.{SyncFolder}
use Rattle.cron_notes.proofs.ChangeLemmas.{made_last}
use Rattle.cron_notes.proofs.replace.make_changes.Goals as goal

pub returns-in_err-rename : goal.returns-in_err-rename
returns-in_err-rename g c =
    let (e, is, same) = err_from_is_err_and c.from_residual-in_err-rename.result c.from_residual-in_err-rename.ensures.1 in
    rw (← c.requires) (inr (_, c.in_ok-write.ensures, inr (_, c.in_ok-sync.ensures, inl (_, c.in_err-rename.ensures, is ∙ ap Err same))))

pub returns : goal.returns
returns g c =
    let last =
    made_last g.S.Store.does (SyncFolder c.args.folder.now) c.rename.new.self c.sync_folder.new.self c.sync_folder.result c.sync_folder.ensures in
    rw (← c.requires) (inr (_, c.in_ok-write.ensures, inr (_, c.in_ok-sync.ensures, inr (_, c.in_ok-rename.ensures, last))))
