pub mod ChunkLaws
pub mod EditLaws
pub mod FilledLaws
