-- The widths of the numbers of a call, of a step, and of an entry.
use Rattle.std.specs.Prelude.{All, FitsSigned}
use Rattle.std.specs.Int.{w32}
use Rattle.edit_calls.specs.declared.asks.Call.{Call}
use Rattle.edit_calls.specs.declared.asks.Call.TheVariants as call
use Rattle.room_core.specs.declared.entry.Entry.{Entry}
use Rattle.line_table.specs.CallTexts.{IsSmall, IsSmallLength, IsSmallWhat}
use Rattle.take_back.specs.declared.step.Deed.{Deed}
use Rattle.take_back.specs.declared.step.Deed.TheVariants.{Do, Back}
use Rattle.take_back.specs.declared.step.Step.{Step}

-- each number of the call has 32 bits. Its own track need not be told, as a call that is not refused has a low one.
abbrev pub HasWidths : Call → Type 0
HasWidths (call.Overwrite c) = IsSmall c.at × IsSmallWhat c.what × IsSmall c.from × IsSmall c.len
HasWidths (call.Insert c) = IsSmall c.tracks × IsSmall c.at × IsSmallWhat c.what × IsSmall c.from × IsSmall c.len
HasWidths (call.Remove c) = IsSmall c.item
HasWidths (call.Extract c) = IsSmall c.tracks × IsSmall c.item
HasWidths (call.Slice c) = IsSmall c.at
HasWidths (call.Dissolve c) = IsSmall c.at × IsSmall c.a × IsSmall c.b
HasWidths (call.Undissolve c) = IsSmall c.at
HasWidths (call.Trim c) = IsSmall c.item × FitsSigned w32 c.by
HasWidths (call.Slip c) = IsSmall c.tracks × IsSmall c.item × FitsSigned w32 c.by
HasWidths (call.Roll c) = IsSmall c.at × FitsSigned w32 c.by
HasWidths (call.Slide c) = IsSmall c.tracks × IsSmall c.item × FitsSigned w32 c.by
HasWidths (call.Fill c) = IsSmall c.at × IsSmallWhat c.what × IsSmall c.from × IsSmallLength c.length
HasWidths (call.Ripple c) = IsSmall c.tracks × IsSmall c.item × FitsSigned w32 c.by
HasWidths (call.Link3 c) = IsSmall c.tracks × All IsSmall c.items
HasWidths (call.Unlink c) = IsSmall c.item

abbrev pub DeedHasWidths : Deed Call → Type 0
DeedHasWidths (Do c) = HasWidths c
DeedHasWidths (Back tracks) = IsSmall tracks

-- each number of the entry has 32 bits, its step's too
pub record IsNarrow (entry : Entry (Step Call)) : Type 0 where
  pub station : IsSmall entry.station
  pub number : IsSmall entry.number
  pub deed : DeedHasWidths entry.call.act
