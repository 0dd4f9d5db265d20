-- `guovssalu_raise_inflight_high_slope` meets its contract: it stops at a refusal, or writes the answer. Assumes nothing.
use Rattle.std.proofs.Common.{◌≡◌, ℕ, ◌≤◌, true, List, eqb, ltb, length, ap, ◌∙◌, arith}
use borrow.Author.Tests.{ltb-false}
use lib.Seq.{sets}
use Rattle.words.specs.Words.{all_bytes}
use Rattle.guovssalu.specs.Slope.{slope_row, slope_reply, slope_words, slope_out}
use Rattle.guovssalu.proofs.Rows.{done_room, done_row, refused, written}
use Rattle.guovssalu.proofs.slope.guovssalu_raise_inflight_high_slope.Goals as goal

slope-room : (rounds window room : ℕ) → eqb (slope_row rounds window room) 0 ≡ true → 16 ≤ room
unfolding slope_row
slope-room rounds window room h = ltb-false room 16 (done_room _ (ltb room 16) h)

pub returns-in-Err : goal.returns-in-Err
unfolding slope_out slope_reply
returns-in-Err c =
    let args = c.args in
    let why = c.in-Err.ensures in
    let it = refused c.in-Err.refusal (slope_words args.rounds args.window) args.out.now why.reply why.fault c.word.ensures in
    record { value = it.0; out_after = it.1 }

pub put_words-requires : goal.put_words-requires
unfolding slope_words
put_words-requires c =
    let two : length c.slope_words.result ≡ 2 = ap length c.slope_words.ensures in
    let room = slope-room _ _ _ (done_row c.in_default.ensures.reply) in
    omega arith

pub returns : goal.returns
unfolding slope_out slope_reply
returns c =
    let args = c.args in
    let out = args.out.now in
    let done = c.in_default.ensures in
    let it = written (slope_words args.rounds args.window) out done.reply done.fault (c.put_words.ensures ∙ ap (λ (words : List ℕ). sets out 0 (all_bytes words)) c.slope_words.ensures) in
    record { value = it.0; out_after = it.1 }
