use Rattle.std.proofs.Common.{◌≡◌, ℕ, ◌≤◌, Some, length, ap, ◌∙◌, arith}
use Rattle.std.proofs.lemmas.List.{length-map}
use Rattle.flatten.specs.Channels.{audio_frames, maximal_runs}
use Rattle.flatten.specs.Segments.{first_partial}
use Rattle.edl_write.proofs.Cutting.{are_events, audio_count, audio_runs, first_of_second, limited_short, partial_refused}
use Rattle.edl_write.proofs.cut_events.cut_events.Goals as goal

pub flatten-requires-clause-tracks : goal.flatten-requires-clause-tracks
flatten-requires-clause-tracks c = limited_short c.args.tracks.now c.requires.tracks

pub overflow_cast-result : goal.overflow_cast-result
overflow_cast-result c =
    let table = c.args.table.now in
    let ts = c.args.tracks.now in
    omega (arith, ap length (c.as_slice-audio.ensures ∙ c.in_ok-shown.ensures.audio), length-map (audio_frames table ts) maximal_runs, audio_count table ts, c.requires.few)

pub returns-in-Err-clause-refused : goal.returns-in-Err-clause-refused
returns-in-Err-clause-refused c =
    let table = c.args.table.now in
    let ts = c.args.tracks.now in
    let audio = c.as_slice-audio.ensures ∙ c.in_ok-shown.ensures.audio in
    let few : length (audio_frames table ts) ≤ 2 = omega (arith, c.if-audio-gt2.false, ap length audio, length-map (audio_frames table ts) maximal_runs) in
    let v = c.as_slice.result.now in
    let a = c.channel.result.now in
    let b = c.channel-2.result.now in
    let is = c.as_slice.ensures ∙ c.in_ok-shown.ensures.video in
    let is_a = audio_runs table ts 0 c.as_slice-audio.result.now a audio c.channel.ensures in
    let is_b = audio_runs table ts 1 c.as_slice-audio.result.now b audio c.channel-2.ensures in
    partial_refused table ts c.in-Err.fault (first_partial 0 b) few c.in-Err.ensures.partial
    (λ (n : ℕ) (h : first_partial 0 b ≡ Some n). first_of_second table ts v a b n is c.in_ok-picture.ensures.whole is_a c.in_ok-sound.ensures.whole is_b h)

pub returns-clause-events : goal.returns-clause-events
returns-clause-events c =
    let table = c.args.table.now in
    let ts = c.args.tracks.now in
    let audio = c.as_slice-audio.ensures ∙ c.in_ok-shown.ensures.audio in
    let few : length (audio_frames table ts) ≤ 2 = omega (arith, c.if-audio-gt2.false, ap length audio, length-map (audio_frames table ts) maximal_runs) in
    let v = c.as_slice.result.now in
    let a = c.channel.result.now in
    let b = c.channel-2.result.now in
    let is = c.as_slice.ensures ∙ c.in_ok-shown.ensures.video in
    let is_a = audio_runs table ts 0 c.as_slice-audio.result.now a audio c.channel.ensures in
    let is_b = audio_runs table ts 1 c.as_slice-audio.result.now b audio c.channel-2.ensures in
    are_events table ts v a b c.in_ok-picture.picture.items c.in_ok-sound.sound.items c.in-Ok.all.items c.in_ok-ordered.field-0.items few is is_a is_b c.in_ok-picture.ensures.segments
    c.in_ok-sound.ensures.segments c.in-Ok.ensures.segments (rw (c.as_slice-2.ensures.value, c.as_slice-3.ensures.value, c.as_slice-4.ensures.value) at c.in_ok-ordered.ensures)
