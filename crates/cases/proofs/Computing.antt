-- All that a guard call, a frame and a step compute with, under one name. Assumes nothing.
--     computing    to unfold it is to unfold every definition that its own line names
use Rattle.layout.specs.Bits.{set_bit, clear_bit}
use Rattle.layout.specs.Run.{run}
use Rattle.layout.specs.Layout.{side_of, good_ptr, word_of, in_descriptors}
use Rattle.layout.specs.Class.{rule_of, class_of, class_at}
use Rattle.words.specs.Word.{word_at, put_word, word, put}
use Rattle.words.specs.WordSet.{empty_set, has, free_at, add_four, drop_four, free_count, words_in_use, view}
use Rattle.blocks.specs.Kinds.{fit_kinds}
use Rattle.blocks.specs.Room.{room_for, room_of, touches}
use Rattle.descriptor.specs.Fields.{sop, eop, owner, eoq, td, packet_length, length_of, offset_of, first_byte}
use Rattle.descriptor.specs.Rules.{flags_fault, length_fault, end_fault, sum_fault, behind, next_fault, own_fault, fetch_fault}
use Rattle.marks.specs.Marks.{put_length, marked, last_marked}
use Rattle.registers.specs.Table.{awaiting, any_tearing, reset_of, bit_of, flags_fit, loaded}
use Rattle.registers.specs.Rules.{head_fault, ack_fault, teardown_fault, reset_fault, zero_fault, tear_queue, by_class, register_fault}
use Rattle.registers.specs.Rules.{head_written, ack_written, written}
use Rattle.chain.specs.Chain.{block_fault, desc_fault, judge_step, chain_of}
use Rattle.book.specs.Sound.{walk_step, walk_from, walk_all, first_step, firsts_from, sound}
use Rattle.book.specs.HandOver.{take_one, drop_one, hand_over_step, taken_from}
use Rattle.book.specs.Release.{plan, release_step, released_from, released_all, released_flags, released_heads, released_book}
use Rattle.book.specs.World.{fit_parts, unfit, sound_book, sound_world, release}
use Rattle.guard.specs.Answers.{answer_to}
use Rattle.guard.specs.Judges.{judge_head, judge_register, last_of, is_last, judge_append, judge_last, judge_word, judge_class, judge}
use Rattle.guard.specs.Guard.{admitted, guest_write}
use Rattle.kinds.specs.Kinds.{in_reception, kind_number, judge_kind, kind_change}
use Rattle.phases.specs.Transmit.{fetch, read_burst, close, mark_eoq, octets_of, clear_own, finish, send_step}
use Rattle.phases.specs.Receive.{fetch as rxFetch, store_burst as rxStore, close as rxClose, mark_last as rxMarkLast}
use Rattle.phases.specs.Receive.{mark_first as rxMarkFirst, finish as rxFinish, take_step as rxStep}
use Rattle.controller.specs.Controller.{transmit_step, receive_step, tear_mark, tear_step, reset_step, step_of, frame_of, register_write}
use Rattle.controller.specs.Controller.{unguarded_write, fresh_controller}
use Rattle.machine.specs.Machine.{apply_write, apply_kind, apply_frame, apply_step, fresh_machine}

unfoldable pub computing : Unit {0}
unfolding set_bit clear_bit run side_of good_ptr word_of in_descriptors rule_of class_of class_at word_at put_word word put empty_set has
    free_at add_four drop_four free_count words_in_use view fit_kinds room_for room_of touches sop eop owner eoq td packet_length length_of
    offset_of first_byte flags_fault length_fault end_fault sum_fault behind next_fault own_fault fetch_fault put_length marked last_marked
    awaiting any_tearing reset_of bit_of flags_fit loaded head_fault ack_fault teardown_fault reset_fault zero_fault tear_queue by_class
    register_fault head_written ack_written written block_fault desc_fault judge_step chain_of walk_step walk_from walk_all first_step
    firsts_from sound take_one drop_one hand_over_step taken_from plan release_step released_from released_all released_flags released_heads
    released_book fit_parts unfit sound_book sound_world release answer_to judge_head judge_register last_of is_last judge_append judge_last
    judge_word judge_class judge admitted guest_write in_reception kind_number judge_kind kind_change fetch read_burst close mark_eoq
    octets_of clear_own finish send_step transmit_step receive_step tear_mark tear_step reset_step step_of frame_of register_write
    unguarded_write fresh_controller apply_write apply_kind apply_frame apply_step fresh_machine rxFetch rxStore rxClose rxMarkLast
    rxMarkFirst rxFinish rxStep
computing = tt
