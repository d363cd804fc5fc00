use Rattle.std.proofs.Common.{List, sym, ap, ◌∙◌, subst}
use Rattle.edl_events.specs.declared.event.Event.{Event}
use Rattle.edl_read.specs.ReadLists.{CanBeRead}
use Rattle.list_import.specs.Refusals.{first_full}
use Rattle.list_import.specs.ShownLists.{ShowsTheTape}
use Rattle.list_import.proofs.ShownImports.{imports_show_their_tape}
use Rattle.list_import.proofs.SoundImports.{import_sound}
use Rattle.list_import.proofs.importing.import_list.Goals as goal

pub returns-in-None-clause-sound : goal.returns-in-None-clause-sound
returns-in-None-clause-sound c =
    import_sound c.as_slice-events.result.now c.args.counting.now c.in_ok-opening.opening (subst CanBeRead (sym c.as_slice-events.ensures) c.requires) c.in_ok-opening.ensures.imports
    (record {
      events_fit = c.in_ok-start.ensures.events_fit;
      within_day = c.in_ok-start.ensures.within_day;
      within_limits = ap first_full (sym c.as_slice.ensures) ∙ (sym c.first_full.ensures ∙ c.in-None.is);
    })

pub returns-in-None-clause-shows : goal.returns-in-None-clause-shows
returns-in-None-clause-shows c =
    subst (λ (es : List Event). ShowsTheTape es c.in_ok-opening.opening) c.as_slice-events.ensures
    (imports_show_their_tape c.as_slice-events.result.now c.args.counting.now c.in_ok-opening.opening (subst CanBeRead (sym c.as_slice-events.ensures) c.requires)
    c.in_ok-start.ensures.events_fit c.in_ok-opening.ensures.imports)
