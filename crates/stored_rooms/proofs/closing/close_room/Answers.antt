use Rattle.std.proofs.Common.{◌≡◌, List, [], ◌∷◌, ◌++◌, length, map, subst, sym, ap, ◌∙◌, arith}
use Rattle.served_rooms.specs.Seated.{LeftState}
use Rattle.station_sessions.specs.SessionInside.{TrackPass}
use Rattle.stored_rooms.specs.Inside.{ClosesKept}
use Rattle.stored_rooms.proofs.ClosedRooms.{closes_kept, each_in}
use Rattle.stored_rooms.proofs.closing.close_room.Goals as goal

pub close-requires : goal.close-requires
close-requires g c =
    let left = c.args.left.items in
    let reader = c.close-file.result.1 in
    let are : c.push_reserved.new.self.items ≡ map (λ (l : LeftState). l.pass) left ++ reader ∷ [] =
    c.push_reserved.ensures.items ∙ ap (λ (ps : List TrackPass). ps ++ reader ∷ []) c.settle_all.ensures.passes in
    let number : reader.number ≡ length left = ap (λ (p : TrackPass). p.number) c.close-file.ensures.pass ∙ (c.close-file.ensures.desk.number_is ∙ c.requires.reader) in
    record { all = λ s low. each_in s left reader c.push_reserved.new.self.items are c.requires.numbers number (omega (arith, low, c.requires.stations)) }

pub returns : goal.returns
returns g c =
    let left = c.args.left.items in
    let desk = c.settle_all.new.desk in
    let h = c.close.result.items in
    let passes = c.push_reserved.new.self.items in
    let reader = c.close-file.result.1 in
    let are : passes ≡ map (λ (l : LeftState). l.pass) left ++ desk.pass ∷ [] =
    c.push_reserved.ensures.items ∙ (ap (λ (ps : List TrackPass). ps ++ reader ∷ []) c.settle_all.ensures.passes ∙ ap (λ (p : TrackPass). map (λ (l : LeftState). l.pass) left ++ p ∷ []) c.close-file.ensures.pass) in
    let disk = c.close-2.ensures ∙ ap (λ f. f.disk) c.close-file.ensures.file in (
      h,
      desk.file.count,
      subst (λ d. ClosesKept g.D.Disk.course g.D.Disk.faults g.K.Filing.kept g.K.Filing.begun g.K.Filing.faults c.args.room left d h desk.file.count) (sym disk)
          (closes_kept g.D.Disk.course g.D.Disk.faults g.J.Naming.opening g.K.Filing.table g.K.Filing.reader g.K.Filing.kept g.K.Filing.begun g.K.Filing.faults desk c.close-file.ensures.desk
          c.args.room left passes h c.requires.reader c.requires.numbers c.settle_all.ensures.held c.settle_all.ensures.failed are c.close.ensures.legal c.close.ensures.passes c.close.ensures.stations),
    )
