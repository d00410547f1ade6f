use Rattle.drv_graph.proofs.paths.known_path.Goals as goal

pub known_path-requires : goal.known_path-requires
known_path-requires c = record {
  dir = c.args.dir.now;
  is_dir = c.text.ensures.is_dir;
  is_path = c.requires;
}
