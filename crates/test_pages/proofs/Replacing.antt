-- A list with others in place of some of its items is no longer than both, and spans no more.
use Rattle.std.proofs.Common.{ℕ, ◌<◌, List, ◌++◌, length, take, drop, sum_by, ap, arith}
use Rattle.std.proofs.lemmas.List.{length-append, take-append-drop}
use Rattle.std.proofs.lemmas.List.Sums.{sum_by-append}
use Rattle.item_pages.specs.Items.{Fits, replaced}

pub replaced_fits : {T : Type 0} (span : T → ℕ) (xs more : List T) (from to : ℕ) → length xs < 1000000 → sum_by span xs < 1000000
    → length more < 1000000 → sum_by span more < 1000000 → Fits span (replaced xs from to more)
replaced_fits span xs more from to count total new places =
    let front = take from xs in
    let back = drop to xs in (
      omega (
        arith,
        count,
        new,
        length-append front (more ++ back),
        length-append more back,
        length-append front (drop from xs),
        ap length (take-append-drop from xs),
        length-append (take to xs) back,
        ap length (take-append-drop to xs),
      ),
      omega (
        arith,
        total,
        places,
        sum_by-append span front (more ++ back),
        sum_by-append span more back,
        sum_by-append span front (drop from xs),
        ap (sum_by span) (take-append-drop from xs),
        sum_by-append span (take to xs) back,
        ap (sum_by span) (take-append-drop to xs),
      ),
    )
