use Rattle.std.proofs.Common.{inr, refl, ◌∙◌, arith}
use Rattle.std.proofs.lemmas.List.{length-map}
use Rattle.cut_steps.specs.CutSteps.{KeptTrack}
use Rattle.edl_write.specs.declared.fault.ListFault.TheVariants.{Memory}
use Rattle.list_commands.proofs.points.put_cut.Goals as goal

pub put_list-requires-clause-tracks : goal.put_list-requires-clause-tracks
put_list-requires-clause-tracks g c = rw (c.deref.ensures.value ∙ c.in-Ok.ensures) c.requires.tracks

pub put_list-requires-clause-few : goal.put_list-requires-clause-few
put_list-requires-clause-few g c =
    rw (c.deref.ensures.value ∙ c.in-Ok.ensures) (omega (arith, length-map c.args.cut.now (λ (k : KeptTrack). k.now), c.requires.few))

pub returns-in-Ok : goal.returns-in-Ok
returns-in-Ok g c = rw (c.deref.ensures.value ∙ c.in-Ok.ensures) at c.put_list.ensures

-- there was no memory for the tracks
pub returns-in-Err : goal.returns-in-Err
returns-in-Err g c = inr (record { fault = Memory; refused = tt; ends = (refl, refl) })
