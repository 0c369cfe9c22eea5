-- That counts decide: what is claimed of the offices of the world.
pub mod CountsDecide
