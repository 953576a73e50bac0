-- Which blocks are wanted and which tasks are needed.
pub use Rattle.nemo_base.specs.Needed.{below, is_master, is_sink, made_by, blocks_of, readers_need, needs_read, is_read_by, is_wanted_by, needed_in, ranks, needed, wanted}
