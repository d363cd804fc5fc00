use Rattle.std.proofs.Common.{◌<◌, inl, refl, arith, length}
use Rattle.cut_mirror.proofs.Steps.{is_other, takes-mirror, there}
use Rattle.cut_mirror.proofs.mirror.Mirror.take.Goals as goal

pub returns-then-place-point-2-clause-mirror : goal.returns-then-place-point-2-clause-mirror
returns-then-place-point-2-clause-mirror g c = λ opening h.
    takes-mirror g.O.PartObject.meaning g.O.PartObject.opens opening c.args.self.now c.add.new.self _ c.args.entry
    c.add.result c.add.ensures.takes h

pub returns-then-is_same-clause-takes : goal.returns-then-is_same-clause-takes
returns-then-is_same-clause-takes g c =
    let within : c.args.place < length c.args.self.now.entries =
    omega (arith, c.if-place-point.false, c.if-place-point-2.false, c.point-point.ensures.point) in
    let one = c.is_same.ensures.same c.if-is_same.true in
    inl (
      record {
        within = within;
        is = rw one at (there _ c.args.self.now c.args.place c.index.result.now
            c.self.view_is within c.index.ensures);
      },
      refl,
    )

pub returns-then-is_same-clause-goes_on : goal.returns-then-is_same-clause-goes_on
returns-then-is_same-clause-goes_on g c =
    let within : c.args.place < length c.args.self.now.entries =
    omega (arith, c.if-place-point.false, c.if-place-point-2.false, c.point-point.ensures.point) in
    let one = c.is_same.ensures.same c.if-is_same.true in
    inl (
      rw one at (there _ c.args.self.now c.args.place c.index.result.now c.self.view_is within
          c.index.ensures),
      refl,
    )

pub returns-clause-takes : goal.returns-clause-takes
returns-clause-takes g c =
    let within : c.args.place < length c.args.self.now.entries =
    omega (arith, c.if-place-point.false, c.if-place-point-2.false, c.point-point.ensures.point) in
    let at = there _ c.args.self.now c.args.place c.index.result.now c.self.view_is within c.index.ensures in (
      (
        refl,
        within,
        is_other c.args.self.now.entries c.args.place c.index.result.now c.args.entry at
            (c.is_same.ensures.other c.if-is_same.false),
      ),
      refl,
    )
