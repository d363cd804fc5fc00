use Rattle.otio_json.proofs.SoundPlain.{plain_sound, plain_texts}
use Rattle.otio_json.proofs.opening.Opening.plain.Goals as goal

pub returns-clause-sound : goal.returns-clause-sound
returns-clause-sound c = rw (c.in_ok-table.ensures, c.in_ok-tracks.ensures, c.plain_counting.ensures) (plain_sound c.args.tracks c.args.reels c.requires.tracks)

pub returns-clause-texts : goal.returns-clause-texts
returns-clause-texts c = rw (c.in_ok-table.ensures) (plain_texts c.args.tracks c.args.reels c.requires.reels)
