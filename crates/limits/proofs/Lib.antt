mod Padding
mod Rising
