-- Items linked, and the link of an item taken away. Links are this project's own.
use Rattle.std.specs.Prelude.{ℕ, ◌+◌, ℤ, pos, Bool, true, false, ◌&&◌, List, [], ◌∷◌, Option, Some, None, Result, Ok, Err, is_some, if◌then◌else◌}
use Rattle.std.specs.Ordering.{int_eq}
use Rattle.frame_meaning.specs.declared.cells.Link.{Link}
use Rattle.composables.specs.declared.calls.Link3.{Link3}
use Rattle.composables.specs.declared.calls.Unlink.{Unlink}
use Rattle.composables.specs.declared.items.ItemView.{ItemView}
use Rattle.composables.specs.declared.refusals.Done.{Done}
use Rattle.composables.specs.declared.refusals.Done.TheVariants.{Linked, Plain}
use Rattle.composables.specs.declared.refusals.Refusal.{Refusal}
use Rattle.composables.specs.declared.refusals.Refusal.TheVariants.{AlreadyLinked, NoItem, NoTrack, OffsetsDiffer}
use Rattle.composables.specs.Answers.{Applied, unless}
use Rattle.composables.specs.OwnTracks.{on_own}
use Rattle.composables.specs.Ranges.{offset_of}
use Rattle.composables.specs.TrackState.{TrackState}
use Rattle.link_groups.specs.LinkedItems.{item_of, linked_item}

-- what is meant where the item is there
abbrev pub where_there : {A : Type 0} → Option (ℕ × ItemView) → Result A Refusal → Result A Refusal
where_there None meant = Err NoItem
where_there (Some p) meant = meant

-- the link taken from an item; an item without one stays as it is
abbrev pub unlink_on : Unlink → TrackState → Result (TrackState × Done) Refusal
unlink_on c t = where_there (item_of t c.item) (Ok (linked_item t c.item None, Plain))

abbrev pub unlink_named : List TrackState → Unlink → Applied
unlink_named named c = on_own c.track (unlink_on c) named

-- there is one number for each of these tracks, in order, and each is that of an item of its track
abbrev pub are_there : List TrackState → List ℕ → Bool
are_there [] [] = true
are_there [] (i ∷ is) = false
are_there (t ∷ ts) [] = false
are_there (t ∷ ts) (i ∷ is) = is_some (item_of t i) && are_there ts is

-- the offset of an item: the record frame at which it begins less the source frame that it shows there
abbrev pub shown_offset : Option ℤ → ℤ
shown_offset None = pos 0
shown_offset (Some n) = n

abbrev pub found_offset : Option (ℕ × ItemView) → ℤ
found_offset None = pos 0
found_offset (Some (x, v)) = shown_offset (offset_of v.first x)

abbrev pub item_offset : TrackState → ℕ → ℤ
item_offset t i = found_offset (item_of t i)

-- the first of these items whose offset is not this one
abbrev pub other_offset : ℤ → List TrackState → List ℕ → Option Refusal
other_offset first [] is = None
other_offset first (t ∷ ts) [] = None
other_offset first (t ∷ ts) (i ∷ is) =
    if int_eq (item_offset t i) first then other_offset first ts is else Some (OffsetsDiffer first (item_offset t i))

-- the first whose offset is not the first item's
abbrev pub offsets_differ : List TrackState → List ℕ → Option Refusal
offsets_differ [] is = None
offsets_differ (t ∷ ts) [] = None
offsets_differ (t ∷ ts) (i ∷ is) = other_offset (item_offset t i) (t ∷ ts) (i ∷ is)

-- an item has a link
abbrev pub has_link : Option (ℕ × ItemView) → Bool
has_link None = false
has_link (Some (x, v)) = is_some v.link

-- the first of these items that has one
abbrev pub already_linked : List TrackState → List ℕ → Option Refusal
already_linked [] is = None
already_linked (t ∷ ts) [] = None
already_linked (t ∷ ts) (i ∷ is) =
    if has_link (item_of t i) then Some (AlreadyLinked t.number i) else already_linked ts is

-- the first of two refusals that may hold
abbrev pub or_else : Option Refusal → Option Refusal → Option Refusal
or_else None then_this = then_this
or_else (Some why) then_this = Some why

-- why these items of the named tracks can't be linked, if they can't
abbrev pub link_refusal : List TrackState → List ℕ → Option Refusal
link_refusal [] is = Some (NoTrack 0)
link_refusal (t ∷ ts) is =
    if are_there (t ∷ ts) is then or_else (offsets_differ (t ∷ ts) is) (already_linked (t ∷ ts) is) else Some NoItem

-- the tracks with this link at each of these items
abbrev pub all_linked : Link → List TrackState → List ℕ → List TrackState
all_linked link [] is = []
all_linked link (t ∷ ts) [] = t ∷ ts
all_linked link (t ∷ ts) (i ∷ is) = linked_item t i (Some link) ∷ all_linked link ts is

-- the home, which is the lowest track, has given its next link number away
abbrev pub home_risen : List TrackState → List TrackState
home_risen [] = []
home_risen (t ∷ ts) = record t { next_link = t.next_link + 1 } ∷ ts

-- the items get a new link, whose home is the lowest named track and whose tracks are the named ones
abbrev pub new_link : TrackState → ℕ → Link
new_link home tracks = record { home = home.number; number = home.next_link; tracks = tracks }

abbrev pub linked : List TrackState → Link3 → Applied
linked [] c = Err (NoTrack 0)
linked (t ∷ ts) c =
    Ok (home_risen (all_linked (new_link t c.tracks) (t ∷ ts) c.items), Linked t.number t.next_link)

abbrev pub link_named : List TrackState → Link3 → Applied
link_named named c = unless (link_refusal named c.items) (linked named c)
