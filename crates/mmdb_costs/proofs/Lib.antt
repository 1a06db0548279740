mod Adding
mod Reading
